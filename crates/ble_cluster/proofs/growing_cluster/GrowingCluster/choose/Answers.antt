use Rattle.ble_cluster.proofs.Prelude.{◌≡◌, ◌<◌, ◌∙◌, ap, sym, subst, IfOk, length, arith, is_ok, cluster_of, input_count_at, free_in}
use Rattle.ble_cluster.proofs.Fitting.{cluster_is, fits_alone, none_free}
use Rattle.ble_cluster.proofs.Filling.{all_filled, alone}
use Rattle.ble_cluster.proofs.SeedLemmas.{seed_within}
use Rattle.ble_cluster.proofs.Fitting.{no_cluster}
use Rattle.ble_cluster.proofs.growing_cluster.GrowingCluster.choose.Goals as goal

pub overflow_cast-seed : goal.overflow_cast-seed
overflow_cast-seed c = omega (arith, seed_within (input_count_at c.args.elements.now.elements) c.args.is_taken.now c.in-Some.seed (sym c.in-Some.is ∙ c.requires.seed), c.requires.by_outside.taken, c.requires.by_outside.few)

pub add-requires : goal.add-requires
add-requires c =
    let elements = c.args.elements.now.elements in
    let small : c.in-Some.seed < length elements = omega (arith, seed_within (input_count_at elements) c.args.is_taken.now c.in-Some.seed (sym c.in-Some.is ∙ c.requires.seed), c.requires.by_outside.taken) in
    record {
      growth = c.clear.ensures.growth;
      number = small;
      fits = rw c.clear.ensures.members (record {
        arch = c.args.arch.now;
        lawful = c.requires.fit.lawful;
        fits = fits_alone c.args.arch.now elements c.in-Some.seed c.requires.fit.alone small;
      });
    }

pub returns-in-None-clause-members : goal.returns-in-None-clause-members
returns-in-None-clause-members c =
    c.clear.ensures.members ∙ sym (ap (cluster_of c.args.arch.now c.args.elements.now.elements) (none_free (input_count_at c.args.elements.now.elements) (free_in c.args.is_taken.now) (sym c.in-None.is ∙ c.requires.seed)) ∙ no_cluster c.args.arch.now c.args.elements.now.elements)

pub returns-in_ok-add-in-Some-clause-members : goal.returns-in_ok-add-in-Some-clause-members
returns-in_ok-add-in-Some-clause-members c =
    subst (λ ms. IfOk c.grow.result (λ _. c.grow.new.self.members.items ≡ ms))
    (cluster_is c.args.arch.now c.args.elements.now.elements (free_in c.args.is_taken.now) c.add.new.self.members.items c.clear.new.self.members.items c.in-Some.seed (sym c.in-Some.is ∙ c.requires.seed) c.clear.ensures.members c.in_ok-add-in-Some.ensures.members)
    c.grow.ensures.members

pub returns-then-arch-eq1-clause-members : goal.returns-then-arch-eq1-clause-members
returns-then-arch-eq1-clause-members c =
    subst (λ ms. IfOk c.fill.result (λ _. c.fill.new.self.members.items ≡ ms))
    (alone c.args.arch.now c.args.elements.now.elements c.args.is_taken.now c.requires.by_outside.taken c.clear.new.self.members.items c.in-Some.seed (sym c.in-Some.is ∙ c.requires.seed) c.clear.ensures.members (omega arith))
    c.fill.ensures.added

pub returns-then-arch-eq1-clause-within : goal.returns-then-arch-eq1-clause-within
returns-then-arch-eq1-clause-within c =
    all_filled (λ number. number < length c.args.elements.now.elements) c.clear.new.self.members.items c.fill.new.self.members.items c.in-Some.seed (is_ok c.fill.result) c.fill.ensures.members c.clear.ensures.growth.members
    (omega (arith, seed_within (input_count_at c.args.elements.now.elements) c.args.is_taken.now c.in-Some.seed (sym c.in-Some.is ∙ c.requires.seed), c.requires.by_outside.taken))
