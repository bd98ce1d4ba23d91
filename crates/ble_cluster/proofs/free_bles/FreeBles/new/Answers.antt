use Rattle.ble_cluster.proofs.free_bles.FreeBles.new.Goals as goal

pub by_keys-requires : goal.by_keys-requires
by_keys-requires c = rw (c.bles.ensures, c.in_ok-elements.ensures) c.requires

pub all_free-requires : goal.all_free-requires
all_free-requires c = rw (← c.bles.ensures) (record {
  lacks = c.in-Ok.ensures.lacks;
  outside = c.in-Ok.ensures.outside;
  by_lack = c.in-Ok.ensures.by_lack;
  by_outside = c.in-Ok.ensures.by_outside;
})
