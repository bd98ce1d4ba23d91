use Rattle.pathfinder.proofs.legal.laws_of_paths.Goals as goal

pub returns : goal.returns
returns c = record {
  least = λ g starts goal path l n e. (c.least_path_law.ensures.least g starts goal path l n).0 e;
  no_node_twice = c.least_path_law.ensures.no_node_twice;
  no_other_start = c.least_path_law.ensures.no_other_start;
}
