use Rattle.std.proofs.Common.{ℕ, ◌≡◌, ap, subst, ◌∙◌, arith, rules, List, ltb}
use Rattle.std.proofs.lemmas.Bool.Decides.{nat_tests}
use Rattle.std.specs.Cmp.{IsStrictWeakOrder}
use Rattle.std.specs.Ordering.{is_lt, nat_cmp}
use Rattle.std.specs.List.Sorted.{IsPermutation, IsStableBy}
use Rattle.std.proofs.lemmas.List.Sorted.{answers_always, IsStrictWeakOrder-flip, IsStrictWeakOrder-by_number}
use Rattle.device_report.specs.declared.channels.ChannelUse.{ChannelUse}
use Rattle.device_report.specs.Channels.{is_fuller}
use Rattle.device_report.proofs.channels.fullest_channels.Goals as goal

is_lt-nat_cmp : (x y : ℕ) → is_lt (nat_cmp x y) ≡ ltb x y
is_lt-nat_cmp x y = grind (arith, nat_tests)

fuller_order : IsStrictWeakOrder is_fuller
fuller_order = IsStrictWeakOrder-flip (λ (x y : ChannelUse). ltb x.wires y.wires) (IsStrictWeakOrder-by_number (λ (x : ChannelUse). x.wires))

pub returns : goal.returns
returns c =
    let sorted : List ChannelUse = c.sort_by.new.self.items in
    record {
      sorted = sorted;
      same = subst (λ (channels : List ChannelUse). IsPermutation channels sorted) c.in_ok-channels.ensures c.in_ok-sort_by.ensures.permutation;
      falling = c.in_ok-sort_by.ensures.sorted is_fuller fuller_order (answers_always _ _ _ (λ f a r g h.
          let told : r ≡ nat_cmp a.1.0.now.wires a.0.now.wires = search rules in ap is_lt told ∙ is_lt-nat_cmp _ _));
      stable = subst (λ (channels : List ChannelUse). IsStableBy is_fuller channels sorted) c.in_ok-channels.ensures (c.in_ok-sort_by.ensures.stable is_fuller fuller_order (answers_always _ _ _ (λ f a r g h.
          let told : r ≡ nat_cmp a.1.0.now.wires a.0.now.wires = search rules in ap is_lt told ∙ is_lt-nat_cmp _ _)));
      first = c.truncate.ensures.items;
    }
