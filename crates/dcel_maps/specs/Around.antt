-- What stands round an edge of a shape, by short names: `open (around m.shape e) use {f, before, after}`.
use Rattle.std.specs.Prelude.{ℕ, ◌*◌}
use Rattle.dcel_fixed.specs.HalfEdges.{rev}
use Rattle.dcel_maps.specs.Shapes.{Shape, face_count, face_of, next_of, origin_of, prev_of}

-- the halves of the edge are e, between `before` and `after` on the face f, and t, between `t_before` and `t_after` on g; e leads from
-- `start` to `end`; new half edges are numbered from n on, and new faces from l on
pub record Around : Type 0 where
  pub n : ℕ
  pub l : ℕ
  pub t : ℕ
  pub f : ℕ
  pub g : ℕ
  pub before : ℕ
  pub after : ℕ
  pub t_before : ℕ
  pub t_after : ℕ
  pub start : ℕ
  pub end : ℕ

-- round the halves e and t
abbrev pub around_halves : Shape → ℕ → ℕ → Around
around_halves s e t = record {
  n = 2 * s.edges;
  l = face_count s;
  t = t;
  f = face_of s e;
  g = face_of s t;
  before = prev_of s e;
  after = next_of s e;
  t_before = prev_of s t;
  t_after = next_of s t;
  start = origin_of s e;
  end = origin_of s t;
}

abbrev pub around : Shape → ℕ → Around
around s e = around_halves s e (rev e)
