use Rattle.cluster.proofs.Prelude.{◌∙◌, ap, refl, sym, bles_of}
use Rattle.cluster.proofs.Going.{ends, ends_lawful, fit_among, goes_further, none_left, stepped}
use Rattle.cluster.proofs.packing.Packing.next.Goals as goal

pub add_cluster-requires : goal.add_cluster-requires
add_cluster-requires c = rw c.arch.ensures.value (record {
  lawful = c.arch.ensures.lawful;
  alone = fit_among c.self.inside.circuit c.self.inside.arch c.self.inside.grower.elements c.self.invariant.fit c.self.invariant.elements;
})

pub invariant_of-self-then-more : goal.invariant_of-self-then-more
invariant_of-self-then-more c =
    let old = c.self.inside in
    let step = stepped old.circuit old.arch old.grower c.add_cluster.new.grower old.clusters c.add_cluster.new.clusters old.made c.self.invariant c.in-Ok.ensures.elements (rw c.arch.ensures.value at c.in-Ok.ensures.added) (rw c.arch.ensures.value at c.in-Ok.ensures.free) in
    (goes_further old.circuit old.arch c.add_cluster.new.grower c.add_cluster.new.clusters old.made step (c.has_free-more.ensures.0 c.if-more.true)).way

pub returns-then-more : goal.returns-then-more
returns-then-more c =
    let old = c.self.inside in
    let step = stepped old.circuit old.arch old.grower c.add_cluster.new.grower old.clusters c.add_cluster.new.clusters old.made c.self.invariant c.in-Ok.ensures.elements (rw c.arch.ensures.value at c.in-Ok.ensures.added) (rw c.arch.ensures.value at c.in-Ok.ensures.free) in
    rw (← c.self.view_is) (refl, (goes_further old.circuit old.arch c.add_cluster.new.grower c.add_cluster.new.clusters old.made step (c.has_free-more.ensures.0 c.if-more.true)).more)

pub new-tables-requires : goal.new-tables-requires
new-tables-requires c =
    let old = c.self.inside in
    let step = stepped old.circuit old.arch old.grower c.add_cluster.new.grower old.clusters c.add_cluster.new.clusters old.made c.self.invariant c.in-Ok.ensures.elements (rw c.arch.ensures.value at c.in-Ok.ensures.added) (rw c.arch.ensures.value at c.in-Ok.ensures.free) in
    let end = ends old.circuit old.arch c.add_cluster.new.grower c.add_cluster.new.clusters old.made step (none_left c.add_cluster.new.grower.free c.has_free-more.result c.has_free-more.ensures.1 c.if-more.false) in
    record {
      packed = rw (c.circuit.ensures.value, c.arch-2.ensures.value) (ends_lawful old.circuit old.arch c.add_cluster.new.clusters c.circuit.ensures.lawful c.arch.ensures.lawful c.self.invariant.fit end.packed);
      bles = c.bles.ensures ∙ c.in-Ok.ensures.elements ∙ c.self.invariant.elements ∙ ap bles_of (sym c.circuit.ensures.value);
    }

pub invariant_of-self-in-Err-tables : goal.invariant_of-self-in-Err-tables
invariant_of-self-in-Err-tables c =
    let old = c.self.inside in
    let step = stepped old.circuit old.arch old.grower c.add_cluster.new.grower old.clusters c.add_cluster.new.clusters old.made c.self.invariant c.in-Ok.ensures.elements (rw c.arch.ensures.value at c.in-Ok.ensures.added) (rw c.arch.ensures.value at c.in-Ok.ensures.free) in
    let end = ends old.circuit old.arch c.add_cluster.new.grower c.add_cluster.new.clusters old.made step (none_left c.add_cluster.new.grower.free c.has_free-more.result c.has_free-more.ensures.1 c.if-more.false) in
    end.way

pub new-requires : goal.new-requires
new-requires c =
    let old = c.self.inside in
    let step = stepped old.circuit old.arch old.grower c.add_cluster.new.grower old.clusters c.add_cluster.new.clusters old.made c.self.invariant c.in-Ok.ensures.elements (rw c.arch.ensures.value at c.in-Ok.ensures.added) (rw c.arch.ensures.value at c.in-Ok.ensures.free) in
    let end = ends old.circuit old.arch c.add_cluster.new.grower c.add_cluster.new.clusters old.made step (none_left c.add_cluster.new.grower.free c.has_free-more.result c.has_free-more.ensures.1 c.if-more.false) in
    record {
      lawful = ends_lawful old.circuit old.arch c.add_cluster.new.clusters c.circuit.ensures.lawful c.arch.ensures.lawful c.self.invariant.fit end.packed;
      bles = c.into_bles.ensures ∙ c.in-Ok.ensures.elements ∙ c.self.invariant.elements;
      kept = rw (c.circuit.ensures.value, c.arch-2.ensures.value) at c.in-Ok-tables.ensures;
    }

pub returns-in-Ok-tables : goal.returns-in-Ok-tables
returns-in-Ok-tables c =
    let old = c.self.inside in
    let step = stepped old.circuit old.arch old.grower c.add_cluster.new.grower old.clusters c.add_cluster.new.clusters old.made c.self.invariant c.in-Ok.ensures.elements (rw c.arch.ensures.value at c.in-Ok.ensures.added) (rw c.arch.ensures.value at c.in-Ok.ensures.free) in
    let end = ends old.circuit old.arch c.add_cluster.new.grower c.add_cluster.new.clusters old.made step (none_left c.add_cluster.new.grower.free c.has_free-more.result c.has_free-more.ensures.1 c.if-more.false) in
    rw (← c.self.view_is) (c.new.ensures ∙ sym end.packed, end.steps)
