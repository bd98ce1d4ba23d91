use Rattle.longest_path.proofs.Prelude.{ℕ, ◌≡◌, ◌+◌, ◌≤◌, ◌∙◌, Bool, true, List, length, replicate, ap, subst, arith, count_by, length-replicate, LookupTable, AreLedTo, IsFirstLost, NoneIsLost}
use Rattle.longest_path.proofs.Marks.{fewer, few_first, lasts, led_first, led_kept, loops_first, loops_kept, only_fewer}
use Rattle.longest_path.proofs.lasting.lasting_nets.Goals as goal

pub loop-pass-init : goal.loop-pass-init
loop-pass-init c =
    let nets : ℕ = c.args.nets in
    let marks : List Bool = c.in_ok-marks.marks.items in
    let is : marks ≡ replicate nets true = c.in_ok-marks.ensures.items_if_clones_equal (λ y e. e) in
    let long : length marks ≡ nets = ap length is ∙ length-replicate nets true in
    record {
      long = long;
      few = (let a : count_by (λ (b : Bool). b) marks ≤ length marks = few_first marks in omega arith);
      led = led_first nets c.args.tables.now marks c.requires.within is;
      loops = loops_first nets c.args.tables.now marks c.requires.within is;
    }

pub loop-pass-preserved : goal.loop-pass-preserved
loop-pass-preserved c =
    let nets : ℕ = c.args.nets in
    let tables : List LookupTable = c.args.tables.now in
    let marks : List Bool = c.loop-pass.marks.items in
    let next : List Bool = c.in_ok-next.next.items in
    let led : AreLedTo tables (length tables) marks next = subst (λ m. AreLedTo tables (length tables) m next) c.deref.ensures.value c.in_ok-next.ensures in
    let gone : IsFirstLost marks next c.in-Some._net = subst (λ n. IsFirstLost marks n c.in-Some._net) c.deref-in-loop-pass-2.ensures.value
    (subst (λ m. IsFirstLost m c.deref-in-loop-pass-2.result.now c.in-Some._net) c.deref-in-loop-pass.ensures.value c.in-Some.ensures) in
    let less : count_by (λ (b : Bool). b) next + 1 ≤ count_by (λ (b : Bool). b) marks = fewer marks next c.in-Some._net led.long (only_fewer tables marks next led c.loop-pass.invariant.led) gone in
    let few : count_by (λ (b : Bool). b) marks + c.loop-pass._pass ≤ nets = c.loop-pass.invariant.few in
    record {
      long = led.long ∙ c.loop-pass.invariant.long;
      few = omega arith;
      led = led_kept tables marks next led c.loop-pass.invariant.led;
      loops = loops_kept tables marks next led c.loop-pass.invariant.loops;
    }

pub returns-in-None : goal.returns-in-None
returns-in-None c =
    let nets : ℕ = c.args.nets in
    let tables : List LookupTable = c.args.tables.now in
    let marks : List Bool = c.loop-pass.marks.items in
    let next : List Bool = c.in_ok-next.next.items in
    let led : AreLedTo tables (length tables) marks next = subst (λ m. AreLedTo tables (length tables) m next) c.deref.ensures.value c.in_ok-next.ensures in
    let none : NoneIsLost marks next = subst (λ n. NoneIsLost marks n) c.deref-in-loop-pass-2.ensures.value
    (subst (λ m. NoneIsLost m c.deref-in-loop-pass-2.result.now) c.deref-in-loop-pass.ensures.value c.in-None.ensures) in
    lasts nets tables marks next c.requires.within c.requires.few c.loop-pass.invariant.long led c.loop-pass.invariant.loops none
