use Rattle.std.proofs.Common.{◌≡◌, ◌∙◌, [], ◌∷◌, arith, eq-eqb, refl, sym}
use Rattle.std.proofs.lemmas.Bool.{false≢true}
use Rattle.std.proofs.lemmas.Bool.Decides.{nat_tests}
use Rattle.dcel_maps.specs.Shapes.{next_of}
use Rattle.dcel_maps.specs.Walking.{ccw_of}
use Rattle.dcel_delaunay.proofs.Bordered.{four_filled, three_filled}
use Rattle.dcel_delaunay.proofs.remove.border.border_of.Goals as goal

pub returns-then-eq : goal.returns-then-eq
returns-then-eq g c =
    let m = c.args.dcel.now in
    let s = m.shape in
    let h = c.beginning-begin.result in
    let back : c.fix.result ≡ ccw_of s (ccw_of s (ccw_of s h)) =
    rw (
      c.fix.ensures.value,
      c.ccw-fourth.ensures.number,
      c.ccw-third.ensures.mesh,
      c.ccw-third.ensures.number,
      c.ccw-second.ensures.mesh,
      c.ccw-second.ensures.number,
      c.directed_edge-first.ensures.mesh,
      c.directed_edge-first.ensures.number,
    ) refl in
    let same : c.fix.result ≡ h = grind (arith, nat_tests, c.eq.ensures, c.if-eq.true) in
    let is : c.fix-then-eq.result ∷ c.fix-then-eq-2.result ∷ c.fix-then-eq-3.result ∷ [] ≡ next_of s (ccw_of s (ccw_of s h)) ∷ next_of s (ccw_of s h) ∷ next_of s h ∷ [] =
    rw (
      c.fix-then-eq.ensures.value,
      c.fix-then-eq-2.ensures.value,
      c.fix-then-eq-3.ensures.value,
      c.next.ensures.number,
      c.next-then-eq.ensures.number,
      c.next-then-eq-2.ensures.number,
      c.ccw-third.ensures.mesh,
      c.ccw-third.ensures.number,
      c.ccw-second.ensures.mesh,
      c.ccw-second.ensures.number,
      c.directed_edge-first.ensures.mesh,
      c.directed_edge-first.ensures.number,
    ) refl in
    (three_filled m c.every_mesh.ensures c.args.vertex c.requires h c.beginning-begin.ensures (sym back ∙ same) (c.fix-then-eq.result ∷ c.fix-then-eq-2.result ∷ c.fix-then-eq-3.result ∷ []) is, refl)

pub returns : goal.returns
returns g c =
    let m = c.args.dcel.now in
    let s = m.shape in
    let h = c.beginning-begin.result in
    let on : c.fix.result ≡ ccw_of s (ccw_of s (ccw_of s h)) =
    rw (
      c.fix.ensures.value,
      c.ccw-fourth.ensures.number,
      c.ccw-third.ensures.mesh,
      c.ccw-third.ensures.number,
      c.ccw-second.ensures.mesh,
      c.ccw-second.ensures.number,
      c.directed_edge-first.ensures.mesh,
      c.directed_edge-first.ensures.number,
    ) refl in
    let is : c.fix-2.result ∷ c.fix-3.result ∷ c.fix-4.result ∷ c.fix-5.result ∷ [] ≡ next_of s (ccw_of s (ccw_of s (ccw_of s h))) ∷ next_of s (ccw_of s (ccw_of s h)) ∷ next_of s (ccw_of s h) ∷ next_of s h ∷ [] =
    rw (
      c.fix-2.ensures.value,
      c.fix-3.ensures.value,
      c.fix-4.ensures.value,
      c.fix-5.ensures.value,
      c.next-2.ensures.number,
      c.next-3.ensures.number,
      c.next-4.ensures.number,
      c.next-5.ensures.number,
      c.ccw-fourth.ensures.mesh,
      c.ccw-fourth.ensures.number,
      c.ccw-third.ensures.mesh,
      c.ccw-third.ensures.number,
      c.ccw-second.ensures.mesh,
      c.ccw-second.ensures.number,
      c.directed_edge-first.ensures.mesh,
      c.directed_edge-first.ensures.number,
    ) refl in (
      four_filled m c.every_mesh.ensures c.args.vertex c.requires h c.beginning-begin.ensures
          (λ back. false≢true (sym c.if-eq.false ∙ c.eq.ensures ∙ eq-eqb c.fix.result h (on ∙ back))) (c.fix-2.result ∷ c.fix-3.result ∷ c.fix-4.result ∷ c.fix-5.result ∷ []) is,
      refl,
    )
