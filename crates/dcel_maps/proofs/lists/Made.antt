-- Where the map after an edit comes by a list, so does a mesh that is the edited one.
use Rattle.std.proofs.Common.{◌≡◌, List, [], sym, subst}
use Rattle.dcel_maps.specs.EditLists.{ComesBy, EditKind}
use Rattle.dcel_maps.specs.Maps.{Map}
use Rattle.dcel_maps.specs.Shapes.{IsMesh, Mesh, Shape, map_of}
use Rattle.dcel_maps.proofs.edits.Changes.{Change, IsEdit, changed, edit_shows, map_after}
use Rattle.dcel_maps.proofs.maps.Agreement.{Extends, agrees_extends}
use Rattle.dcel_maps.proofs.maps.Lists.{comes_after, extends_same}
use Rattle.dcel_maps.proofs.shapes.Shown.{shown-agrees}

module _ {V DE UE F : Type 0} where
  -- the mesh t is that edit of another one
  pub so : (kinds : List EditKind) (S : Map) (t edit : Mesh V DE UE F) → t ≡ edit → ComesBy kinds S (map_of edit.shape) → ComesBy kinds S (map_of t.shape)
  so kinds S t edit is comes = subst (λ (t : Mesh V DE UE F). ComesBy kinds S (map_of t.shape)) (sym is) comes

  pub changed_by : (m : Mesh V DE UE F) (c : Change V DE UE F) (kinds : List EditKind) (S : Map) (t : Mesh V DE UE F)
      → IsMesh m → IsEdit m c → t ≡ changed m c → ComesBy kinds S (map_after m.shape c) → ComesBy kinds S (map_of t.shape)
  changed_by m c kinds S t mesh edit is comes =
      let T = map_after m.shape c in
      let U = map_of (changed m c).shape in
      so kinds S t (changed m c) is (comes_after kinds S T U comes (agrees_extends T U (shown-agrees (changed m c).shape T (edit_shows m c mesh edit))))

-- all but the shape may be other than it was
pub stays_listed : (s t : Shape) → t ≡ s → ComesBy [] (map_of s) (map_of t)
stays_listed s t same = subst (λ t. Extends (map_of s) (map_of t)) (sym same) (extends_same (map_of s))
