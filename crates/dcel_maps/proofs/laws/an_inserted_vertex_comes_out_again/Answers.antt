use Rattle.dcel_maps.proofs.removal.InsertedBack.{inserted_back}
use Rattle.dcel_maps.proofs.laws.an_inserted_vertex_comes_out_again.Goals as goal

pub returns : goal.returns
returns g c = λ m v f border new filling mesh can l. inserted_back m v f border new filling mesh can l
