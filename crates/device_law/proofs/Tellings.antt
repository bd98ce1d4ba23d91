-- What is read of the answers to the operator, one after another.
use Rattle.device_law.proofs.Prelude.{◌≡◌, ℕ, ◌+◌, ◌-◌, List, [], ◌∷◌, length, map, Some, sym, ap, subst, arith, flat_map, PlacedStrip, Device, IsDevice, Call, ServiceState, live_of, Act, Operator, Session, OperatorLine, Admit, Evict, Move, Owners, Step, Take, Put, last_id, IsServed, Stage, tried_text, AreSteady, steady_asks, steady_held, steady_take, Plan, IsAnswered, Telling, Tells, told_operator, DeviceSize, Seen, node_of, Shown, owners_in, reports, shown_after, shown_by, size_of}
use Rattle.script_text.specs.declared.operator_line.OperatorLine.TheVariants.{List as ListAll}
use Rattle.device_law.proofs.AdmittedNames.{HasName}
use Rattle.device_law.proofs.Each.{Each}
use Rattle.device_law.proofs.OwnThere.{Laws}
use Rattle.device_law.proofs.ReplyLines.{reads-append, reads-none}
use Rattle.device_law.proofs.ServedLines.{admission_then, eviction_then, move_then, take_then}
use Rattle.device_law.proofs.ShownLists.{list_then, owners_then}
use Rattle.device_law.proofs.Shows.{After, Shows, now_shown, outcome_after, shows_same, steps_after}
use Rattle.device_law.proofs.Stages.{Fine, fine_next, plan-run, steady-tried}

-- the strips and names stay
after_same : (size : DeviceSize) (strips other : List PlacedStrip) (names others : List (List ℕ)) (shown : Shown) (seen : Seen) (number : ℕ) (text : List ℕ) → other ≡ strips → others ≡ names →
    After size strips names shown seen number text → After size other others shown seen number text
after_same size strips other names others shown seen number text same same_names after = record { new = after.new; reads = after.reads; shows = shows_same size strips other names others shown after.new same same_names after.shows }

strips_same : (old new : ServiceState) → new.plan ≡ old.plan → new.plan.strips ≡ old.plan.strips
strips_same old new is = ap (λ (p : Plan). p.strips) is

module _ (laws : Laws) (device : Device) (known : IsDevice device) where
  abbrev size : DeviceSize
  size = size_of device known

  abbrev At : Stage → Shown → Seen → Type 0
  At stage shown seen = Shows (size_of device known) stage.service.plan.strips stage.names shown seen

  abbrev Then : Stage → Shown → Seen → ℕ → List ℕ → Type 0
  Then stage shown seen number text = After (size_of device known) stage.service.plan.strips stage.names shown seen number text

  line_then : (old new : Stage) (line : OperatorLine (List ℕ)) (calls : List Call) (text : List ℕ) → IsServed old line calls text new → Fine device old → (shown : Shown) (seen : Seen) (number : ℕ) → At old shown seen →
      Then new (shown_by old (Operator line) calls text shown) seen number text
  line_then old new (Admit name width) calls text is fine shown seen number at = admission_then device known old new fine shown seen number at (live_of old.service.histories (last_id old.names name)) name width calls text is
  line_then old new (Evict name) calls text is fine shown seen number at = eviction_then device known old new fine shown seen number at (last_id old.names name) text is.0 is.1 is.2 is.5
  line_then old new (Move name offset) calls text is fine shown seen number at = move_then device known old new fine shown seen number at (last_id old.names name) offset text is.0 is.1 is.2 is.5
  line_then old new (Step name count) calls text is fine shown seen number at =
      let steady : AreSteady calls = subst AreSteady (sym is.6) (steady-tried (last_id old.names name) is.0 is.2) in
      let plan = plan-run old.service new.service calls steady is.3 in
      let P : List ℕ → Type 0 = λ t. Then new (now_shown (reports t) shown) seen number t in
      subst P (sym is.7) (after_same (size_of device known) old.service.plan.strips new.service.plan.strips old.names new.names (now_shown (reports (tried_text is.0)) shown) seen number (tried_text is.0) (strips_same old.service new.service plan) is.4
      (steps_after (size_of device known) old.service.plan.strips old.names is.0 shown seen number at))
  line_then old new (Take name) calls text is fine shown seen number at =
      take_then device known old new fine shown seen number at is.0 (length old.jobs + 1) text (plan-run old.service new.service calls (steady_take (last_id old.names name) is.0 calls is.1) is.2) is.3 is.5
  line_then old new (Put number') calls text is fine shown seen number at = grind (arith, plan-run, steady_held, after_same, strips_same, outcome_after)
  line_then old new ListAll calls text is fine shown seen number at = search (list_then, arith)
  line_then old new Owners calls text is fine shown seen number at =
      let now = owners_then device known old fine shown seen number at laws is.0 is.1 text is.3 in
      let P : Stage → Type 0 = λ s. Then s (record shown { owned = Some (map node_of (owners_in calls)) }) seen number text in
      let Q : List Call → Type 0 = λ cs. Then old (record shown { owned = Some (map node_of (owners_in cs)) }) seen number text in
      subst P (sym is.4) (subst Q (sym is.2) now)

  act_then : (old new : Stage) (act : Act (List ℕ)) (calls : List Call) (text : List ℕ) → IsAnswered old act calls text new → Fine device old → (shown : Shown) (seen : Seen) (number : ℕ) → At old shown seen →
      Then new (shown_by old act calls text shown) seen number (told_operator act text)
  act_then old new (Operator line) calls text is fine shown seen number at = line_then old new line calls text is fine shown seen number at
  act_then old new (Session name line) calls text is fine shown seen number at =
      let plan = plan-run old.service new.service calls (steady_asks (last_id old.names name) line calls is.0 is.1) is.2 in
      record { new = seen; reads = reads-none seen number; shows = shows_same (size_of device known) old.service.plan.strips new.service.plan.strips old.names new.names shown seen (strips_same old.service new.service plan) is.3 at }

  -- one after another
  pub record Ended (old : Stage) (ts : List Telling) (last : Stage) (told : Tells old ts last) (shown : Shown) (seen : Seen) (number : ℕ) : Type 0 where
    pub after : Then last (shown_after old ts last told shown) seen number (flat_map (λ (t : Telling). told_operator t.act t.text) ts)
    pub fine : Fine device last

  pub tells_then : (old : Stage) (ts : List Telling) (last : Stage) (told : Tells old ts last) → Each HasName (map (λ (t : Telling). t.act) ts) → Fine device old → (shown : Shown) (seen : Seen) (number : ℕ) → At old shown seen → Ended old ts last told shown seen number
  tells_then old [] last told named fine shown seen number at =
      let P : Stage → Type 0 = λ s. Then s shown seen number [] in
      let now : Then old shown seen number [] = record { new = seen; reads = reads-none seen number; shows = at } in
      record { after = subst P (sym told) now; fine = subst (Fine device) (sym told) fine }
  tells_then old (t ∷ ts) last told named fine shown seen number at =
      let first = act_then old told.0 t.act t.calls t.text told.1 fine shown seen number at in
      let next = fine_next device old told.0 t.act t.calls t.text told.1 named.0 fine in
      let rest = tells_then told.0 ts last told.2 named.1 next (shown_by old t.act t.calls t.text shown) first.new first.reads.next first.shows in
      record {
        after = record {
          new = rest.after.new;
          reads = reads-append seen number (told_operator t.act t.text) (flat_map (λ (u : Telling). told_operator u.act u.text) ts) first.new rest.after.new first.reads rest.after.reads;
          shows = rest.after.shows;
        };
        fine = rest.fine;
      }
