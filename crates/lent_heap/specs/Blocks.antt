-- The blocks of a heap.
use Rattle.std.specs.Prelude.{ℕ, zero, suc, ◌/◌, ◌^◌, ◌<◌, max}
use Rattle.std.specs.Int.{IsNextPowerOfTwo}
use mir.Syntax.{Ty, w128, ty_int, ty_array, ty_ptr}
use prog.Memory.{size}
use base.Fml.{Fml, ffalse, ftrue, fsep, fex, fwand, fat, froom}
use base.Fraction.{full_share}
use denote.RawPtr.{Ptr, block_ptr, null_ptr, ptr_val, room_for}

-- n bytes, as units of 16 that are aligned to 16
abbrev pub units_of : ℕ → Ty
units_of n = ty_array (ty_int w128) (n / 16)

-- room for them at p
abbrev pub bytes_at : Ptr → ℕ → Fml
bytes_at p n = room_for (units_of n) p

-- the block for a request of n bytes has m: the least power of two that is n or more, from 16 on
abbrev pub IsBlockSize : ℕ → ℕ → Type 0
IsBlockSize n m = IsNextPowerOfTwo (max n 16) m

-- the right to give the block for a τ at p back: who has the room has the block again
abbrev pub block_token : Ty → Ptr → Fml
block_token τ p = fex ℕ (λ m. fex ((size τ < 2 ^ 63) × IsBlockSize (size τ) m) (λ _. fwand (room_for τ p) (bytes_at p m)))

module _ (n : ℕ) where
  -- a free block of n bytes, which begins with a pointer to the next
  abbrev pub spare : Ptr → Ptr → Fml
  spare null_ptr next = ffalse
  spare (block_ptr b o) next = fsep (fat full_share ty_ptr b o (ptr_val next)) (fwand (froom ty_ptr b o) (froom (units_of n) b o))

  -- so many of them, one after another
  abbrev pub spares : ℕ → Ptr → Fml
  spares zero p = ftrue
  spares (suc k) p = fex Ptr (λ next. fsep (spare p next) (spares k next))
