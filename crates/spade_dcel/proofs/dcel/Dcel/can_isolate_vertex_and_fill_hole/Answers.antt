use Rattle.spade_dcel.proofs.dcel.Dcel.can_isolate_vertex_and_fill_hole.Goals as goal

pub returns : goal.returns
returns g c = (
  λ is. (rw (← c.self.view_is) (c.is_closed.ensures.0 c.if-not-is_closed.false), c.is_border_loop.ensures.0 is),
  λ can. c.is_border_loop.ensures.1 can.1,
)
