use Rattle.std.proofs.Common.{◌≡◌, ◌<◌, ℕ, inl, inr, refl, sym, ◌∙◌, subst, arith}
use Rattle.std.proofs.lemmas.Bool.{false≢true}
use Rattle.dcel_fixed.specs.HalfEdges.{rev}
use Rattle.dcel_maps.specs.Count.{live_edges, live_faces, used_vertices}
use Rattle.dcel_maps.specs.Examples.{two_triangles}
use Rattle.dcel_maps.specs.HeadlineExamples.{pinched, torus}
use Rattle.dcel_maps.specs.Maps.{NextOrRev, starts_edge}
use Rattle.dcel_maps.specs.Removals.{gives_up_edge, gives_up_face, gives_up_vertex}
use Rattle.dcel_maps.specs.Shapes.{map_of, next_of, origin_of}
use Rattle.dcel_maps.specs.Walking.{ccw_of, walk_of}
use Rattle.dcel_maps.specs.Walks.{up_to}
use Rattle.dcel_maps.specs.Words.{count_of, next_in, prev_in}
use Rattle.dcel_maps.proofs.Liveness.{is_live-given_up}
use Rattle.dcel_maps.proofs.maps.FirstTriangle.{below_six}
use Rattle.dcel_maps.proofs.maps.Reaching.{reaches_stays}
use Rattle.dcel_maps.proofs.laws.the_headline_leaves_out.Goals as goal

-- the first triangle is not left
stays : (x y : ℕ) → x < 6 → NextOrRev (map_of two_triangles) x y → y < 6
unfolding next_in rev
stays x y below leads =
    let at_0 : 0 < 6 = omega arith in
    let at_1 : 1 < 6 = omega arith in
    let at_2 : 2 < 6 = omega arith in
    let at_3 : 3 < 6 = omega arith in
    let at_4 : 4 < 6 = omega arith in
    let at_5 : 5 < 6 = omega arith in
    elim leads [
      | inl next ↦ subst (λ z. z < 6) next (below_six (λ z. next_of two_triangles z < 6) at_2 at_5 at_4 at_1 at_0 at_3 x below)
      | inr other ↦ subst (λ z. z < 6) other (below_six (λ z. rev z < 6) at_1 at_0 at_3 at_2 at_5 at_4 x below)
    ]

pub returns-clause-apart : goal.returns-clause-apart
unfolding gives_up_edge
returns-clause-apart g c = λ connected.
    let start : 0 < 6 = omega arith in
    let end : 6 < 6 = reaches_stays (NextOrRev (map_of two_triangles)) (λ z. z < 6) stays start (connected 0 6 refl refl) in
    absurd (omega (arith, end))

pub returns-clause-torus : goal.returns-clause-torus
unfolding gives_up_edge gives_up_face starts_edge
returns-clause-torus g c = λ two.
    let vertices : used_vertices torus ≡ 1 = refl in
    let edges : live_edges torus ≡ 2 = refl in
    let faces : live_faces torus ≡ 1 = refl in
    absurd (omega (arith, two 0 refl, vertices, edges, faces))

pub returns-clause-pinched : goal.returns-clause-pinched
unfolding gives_up_edge next_in prev_in rev up_to
returns-clause-pinched g c = λ cycles.
    let lists = cycles.each 0 0 (record { live = refl; start = refl }) in
    let one : count_of 6 (walk_of pinched (ccw_of pinched) 0) ≡ 1 = lists.each 6 (record { live = refl; start = refl }) in
    let none : count_of 6 (walk_of pinched (ccw_of pinched) 0) ≡ 0 = refl in
    absurd (omega (arith, one, none))

pub returns-clause-spokes : goal.returns-clause-spokes
returns-clause-spokes g c = λ m given_up h live gone cycles.
    false≢true (sym (is_live-given_up (gives_up_vertex given_up) m.shape.vertices (origin_of m.shape h) gone) ∙ cycles.at_live h live)

pub returns-clause-idle : goal.returns-clause-idle
unfolding gives_up_face
returns-clause-idle g c = λ cycles.
    let outer : 2 ≡ 0 = (cycles.empty 2 refl refl).0 in absurd (omega (arith, outer))

pub returns-clause-unanchored : goal.returns-clause-unanchored
unfolding gives_up_edge
returns-clause-unanchored g c = λ anchored.
    let some : 0 < 4 = omega arith in anchored.vertices 0 some 0 refl refl
