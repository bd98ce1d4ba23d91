use Rattle.longest_path.proofs.Prelude.{ℕ, ◌≡◌, ◌≤◌, ◌∙◌, Bool, List, [], ◌∷◌, ◌++◌, length, get_or, drop, eqb, ap, sym, subst, arith, All, IsDistinct, All-append, All-cons, All-nil, IfOk-weaker, LookupTable, StepBack, IsMarked, IsMissing, IsPlaceOf, IsLoop, IsThrough}
use Rattle.longest_path.proofs.Looping.{comes_again, differ_more, differ_none, not_more, one_longer, ways_more}
use Rattle.longest_path.proofs.loops.loop_before.Goals as goal

pub loop-step-init : goal.loop-step-init
loop-step-init c =
    let none : c.new-nets.result.items ≡ [] = c.new-nets.ensures.items in
    let empty : length c.new-nets.result.items ≡ 0 = ap length none in
    record {
      nets_long = empty;
      numbers_long = ap length c.new-numbers.ensures.items;
      marked = c.requires.marked;
      differ = subst (IsDistinct eqb) (sym none) differ_none;
      marked_all = λ k d within. absurd (omega arith);
      ways = λ k within. absurd (omega arith);
    }

pub returns-in-Some : goal.returns-in-Some
returns-in-Some c =
    let tables : List LookupTable = c.args.tables.now in
    let nets : List ℕ = c.loop-step.nets.items in
    let numbers : List ℕ = c.loop-step.numbers.items in
    let place : ℕ = c.in-Some.place in
    let at : IsPlaceOf nets c.loop-step.net place = subst (λ ns. IsPlaceOf ns c.loop-step.net place) c.deref.ensures.value c.in-Some.ensures in
    let round : IsLoop tables (drop place numbers) = comes_again tables nets numbers c.loop-step._step c.loop-step.net place c.loop-step.invariant.nets_long c.loop-step.invariant.numbers_long at c.loop-step.invariant.ways in
    IfOk-weaker c.tail_of.result _ _ (λ tail is. subst (IsLoop tables) (sym (is ∙ ap (drop place) c.deref-in-Some.ensures.value)) round) c.tail_of.ensures

pub loop-step-preserved : goal.loop-step-preserved
loop-step-preserved c =
    let tables : List LookupTable = c.args.tables.now in
    let marks : List Bool = c.args.marks.now in
    let nets : List ℕ = c.loop-step.nets.items in
    let numbers : List ℕ = c.loop-step.numbers.items in
    let net : ℕ = c.loop-step.net in
    let step : ℕ = c.loop-step._step in
    let back : StepBack = c.in-Some-marked_back.back in
    let missing : IsMissing nets net = subst (λ ns. IsMissing ns net) c.deref.ensures.value c.in_default.ensures in
    let more_nets : c.push.new.self.items ≡ nets ++ net ∷ [] = c.in_ok-push.ensures.items in
    let more_numbers : c.push-in-loop-step.new.self.items ≡ numbers ++ back.table ∷ [] = c.in_ok-push-2.ensures.items in
    let led = c.in-Some-marked_back.ensures in
    record {
      nets_long = ap length more_nets ∙ one_longer nets net step c.loop-step.invariant.nets_long;
      numbers_long = ap length more_numbers ∙ one_longer numbers back.table step c.loop-step.invariant.numbers_long;
      marked = led.among.1;
      differ = subst (IsDistinct eqb) (sym more_nets) (differ_more nets net c.loop-step.invariant.differ missing);
      marked_all = subst (All (IsMarked marks)) (sym more_nets)
          (All-append (IsMarked marks) nets (net ∷ []) c.loop-step.invariant.marked_all (All-cons (IsMarked marks) net [] c.loop-step.invariant.marked (All-nil (IsMarked marks))));
      ways = λ k few. subst (λ (ns : List ℕ). IsThrough tables back.net (drop k ns) (get_or c.push.new.self.items k 0)) (sym more_numbers)
          (subst (λ (ns : List ℕ). IsThrough tables back.net (drop k (numbers ++ back.table ∷ [])) (get_or ns k 0)) (sym more_nets)
          (ways_more tables marks nets numbers step net back c.loop-step.invariant.nets_long c.loop-step.invariant.numbers_long led c.loop-step.invariant.ways k few));
    }

pub unreachable-requires-2 : goal.unreachable-requires-2
unreachable-requires-2 c =
    let few : length c.loop-step.nets.items ≤ length c.args.marks.now = not_more c.args.marks.now c.loop-step.nets.items c.loop-step.invariant.marked_all c.loop-step.invariant.differ in
    let long : length c.loop-step.nets.items ≡ c.loop-step._step = c.loop-step.invariant.nets_long in
    omega arith
