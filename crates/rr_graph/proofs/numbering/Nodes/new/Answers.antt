use Rattle.rr_graph.proofs.Prelude.{sym, subst, AreOrdered}
use Rattle.rr_graph.proofs.Columns.{member_small}
use Rattle.rr_graph.proofs.numbering.Nodes.new.Goals as goal

pub first_from-before-requires-clause-members : goal.first_from-before-requires-clause-members
first_from-before-requires-clause-members c = subst AreOrdered (sym c.as_slice.ensures.value) (record {
  rising = c.in_ok-members.ensures.all.rising;
  small = λ k d within. member_small _ _ c.requires.arch c.requires.strip _ (c.in_ok-members.ensures.all.sound k d within);
})

pub firsts_of-requires : goal.firsts_of-requires
firsts_of-requires c = subst AreOrdered (sym c.as_slice-2.ensures.value) (record {
  rising = c.in_ok-members.ensures.all.rising;
  small = λ k d within. member_small _ _ c.requires.arch c.requires.strip _ (c.in_ok-members.ensures.all.sound k d within);
})
