use Rattle.mesh_page.proofs.constrained.listing.list_triangles.Goals as goal

pub returns-in-Ok-clause-constrained : goal.returns-in-Ok-clause-constrained
returns-in-Ok-clause-constrained c =
    let known = c.dcel.ensures in
    λ _ whole. record {
      closed = known.closed;
      triangles = known.triangles;
      joined = known.joined;
      plane = known.plane;
      apart = known.apart whole;
      covers = known.covers whole;
      single = known.single whole;
      hull = known.hull whole;
      constrained = known.constrained whole;
      visible = known.visible whole;
    }
