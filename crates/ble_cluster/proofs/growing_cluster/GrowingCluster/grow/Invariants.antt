use Rattle.ble_cluster.proofs.Prelude.{◌≡◌, members_after, IsFirstFree, free_in, IsGrowingCluster, IsRoomFor}
use Rattle.ble_cluster.proofs.growing_cluster.GrowingCluster.grow.Given as goal

-- the members after this number of additions
abbrev pub invariant-loop-added : goal.invariant-loop-added
invariant-loop-added l = record {
  growth : IsGrowingCluster l.elements.elements l.elements.nets l.self;
  members : l.self.members.items ≡ members_after l.arch l.elements.elements (free_in l.is_taken) l.fn.self.members.items l.added;
  room : IsRoomFor l.elements l.self;
  keys : l.by_outside.keys.items ≡ l.fn.by_outside.keys.items;
  free : IsFirstFree l.is_taken l.by_outside;
}
