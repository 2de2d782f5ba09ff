use Rattle.dcel_delaunay.proofs.triangulation.Triangulation.insert_with_hint.Goals as goal

pub returns-clause-inserts : goal.returns-clause-inserts
returns-clause-inserts g c = rw c.begin_at.ensures at c.insert_from.ensures.inserts

pub returns-clause-refuses : goal.returns-clause-refuses
returns-clause-refuses g c = rw c.begin_at.ensures at c.insert_from.ensures.refuses

pub returns-clause-same : goal.returns-clause-same
returns-clause-same g c = rw c.begin_at.ensures at c.insert_from.ensures.same
