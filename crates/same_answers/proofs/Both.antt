-- One script, without workers and with them.
use Rattle.same_answers.proofs.Prelude.{◌≡◌, ℕ, List, [], ◌∷◌, Bool, true, false, Option, Some, Result, Ok, Err, refl, sym, ap, ◌∙◌, subst, arith, All, is_some, map, bytes_eq-Decides, All-head, All-tail, Arch, ArchFault, physical_lines, Event, Reply, State, start, Device, own_events, ServiceState, empty_service, live_of, live_width, strip_on, run_device, own_graph, items_of, Act, section_of, acts_from, Parts, nothing_said, Head, Script, last_id, HasOwnGraph, Stage, Conversation, told_in, IsReadTheSame, IsSameScript, input_of, items_by, waits_for_each, waited_text, HasWaitedText, Waits, Architecture, said_in, threaded_start_of, checked_start, device_of, start_of, sections_after, AreLeftAlone, HasTextInOrder, acts_of, answers_for, HasSameAnswers, HasStrip, IsRepliedIn, stage_at_session, from_session, text_of}
use Rattle.same_answers.proofs.Beginning.{has_begun, same_items}
use Rattle.same_answers.proofs.ByHand.{AreNotByHand, not_by_hand}
use Rattle.same_answers.proofs.Sections.{section_is}

-- both readings have the same architecture, and say the same
record AreRead (arch other_arch : Arch) (acts : List (Act (List ℕ))) (parts : Parts) : Type 0 where
  arch_is : arch ≡ other_arch
  same : IsSameScript parts acts
  free : AreNotByHand acts

are_read : IsReadTheSame → (r : Result Arch ArchFault) (head : Bool) (text : List ℕ) (arch other_arch : Arch) (acts : List (Act (List ℕ))) (parts : Parts) →
    (said : Result (List (Act (List ℕ))) ℕ) → acts_from 1 head (physical_lines text) ≡ said → (heard : Result Parts ℕ) → said_in head (physical_lines text) ≡ heard → checked_start r said ≡ Ok (arch, acts) → checked_start r heard ≡ Ok (other_arch, parts) → AreRead arch other_arch acts parts
are_read read_the_same (Err fault) head text arch other_arch acts parts said is heard hears one other = cc
are_read read_the_same (Ok own) head text arch other_arch acts parts (Err line) is heard hears one other = cc
are_read read_the_same (Ok own) head text arch other_arch acts parts (Ok said) is (Err line) hears one other = cc
are_read read_the_same (Ok own) head text arch other_arch acts parts (Ok said) is (Ok heard) hears one other =
    let pair : ◌≡◌ {A = Arch × List (Act (List ℕ))} (own, said) (arch, acts) = cc in
    let other_pair : ◌≡◌ {A = Arch × Parts} (own, heard) (other_arch, parts) = cc in
    let same_acts : said ≡ acts = ap (λ (p : Arch × List (Act (List ℕ))). p.1) pair in
    let same_parts : heard ≡ parts = ap (λ (p : Arch × Parts). p.1) other_pair in
    by_head head (is ∙ ap Ok same_acts) (hears ∙ ap Ok same_parts) (sym (ap (λ (p : Arch × List (Act (List ℕ))). p.0) pair) ∙ ap (λ (p : Arch × Parts). p.0) other_pair)
  where
    from : (b : Bool) → acts_from 1 b (physical_lines text) ≡ Ok acts → arch ≡ other_arch → AreNotByHand acts → ((others : List (Act (List ℕ))) × (acts_from 1 b (physical_lines text) ≡ Ok others) × IsSameScript parts others) → AreRead arch other_arch acts parts
    from b are same free read =
        let both : ◌≡◌ {A = Result (List (Act (List ℕ))) ℕ} (Ok read.0) (Ok acts) = sym read.1 ∙ are in
        let one : read.0 ≡ acts = cc in
        record { arch_is = same; same = subst (IsSameScript parts) one read.2; free = free }

    by_head : (b : Bool) → acts_from 1 b (physical_lines text) ≡ Ok acts → said_in b (physical_lines text) ≡ Ok parts → arch ≡ other_arch → AreRead arch other_arch acts parts
    by_head true are hears same = from true are same (not_by_hand 1 Head nothing_said (physical_lines text) parts hears acts are) (read_the_same 1 text true parts hears)
    by_head false are hears same = from false are same (not_by_hand 1 Script nothing_said (physical_lines text) parts hears acts are) (read_the_same 1 text false parts hears)

starts : IsReadTheSame → (tracks : ℕ) (architecture : Architecture) (input : List ℕ) (arch other_arch : Arch) (acts : List (Act (List ℕ))) (parts : Parts) → start_of tracks architecture input ≡ Ok (arch, acts) → threaded_start_of tracks architecture input ≡ Ok (other_arch, parts) → AreRead arch other_arch acts parts
starts read_the_same tracks architecture input arch other_arch acts parts one other = search (are_read, arith)

-- the name's conversation
abbrev HasText : (names : List (List ℕ)) → ServiceState → (ℕ → State) → Conversation → Type 0
HasText names service begin c = (width : ℕ) → live_width service.histories c.id ≡ Some width → Waits c → (told_in c).text ≡ waited_text (begin width) (items_of c.said.input)

abbrev IsNamed : List (List ℕ) → ServiceState → Conversation → Type 0
IsNamed names service c = (c.id ≡ last_id names c.said.name) × (is_some c.told ≡ is_some (live_of service.histories c.id))

conversation : (name : List ℕ) (width : ℕ) (names : List (List ℕ)) (service : ServiceState) (begin : ℕ → State) (cs : List Conversation) → All (HasText names service begin) cs → All (IsNamed names service) cs → All (IsRepliedIn name) cs → HasStrip name width names service →
    waits_for_each false (items_of (input_of name (map (λ c. c.said) cs))) ≡ true → text_of name (map told_in cs) ≡ waited_text (begin width) (items_of (input_of name (map (λ c. c.said) cs)))
conversation name width names service begin [] texts named replied strip waits = refl
conversation name width names service begin (c ∷ cs) texts named replied strip waits = grind (arith, bytes_eq-Decides, All-head, conversation name width names service begin cs (All-tail (HasText names service begin) c cs texts) (All-tail (IsNamed names service) c cs named) (All-tail (IsRepliedIn name) c cs replied) strip)

-- the two runs
pub both_same : HasTextInOrder → HasWaitedText → IsReadTheSame → HasSameAnswers
both_same text_in_order same_with read_the_same options other architecture input output other_output name width device r s waits left strip other_strip replied other_replied =
    let read : AreRead r.arch s.arch r.acts s.parts = starts read_the_same options.tracks architecture input r.arch s.arch r.acts s.parts r.begins (ap (λ tracks. threaded_start_of tracks architecture input) device.0 ∙ s.begins) in
    let own : Device = device_of options r.arch in
    let begin : State = start r.arch (strip_on own width) in
    let from : Stage = record { names = []; jobs = []; service = empty_service own; graph = own_graph own } in
    let b = has_begun name from r.tellings r.last r.told (subst AreNotByHand (sym r.all) read.free) in
    let acts : acts_of b.rest ≡ from_session r.acts = b.acts_are ∙ ap from_session r.all in
    let items : items_by name (acts_of b.rest) ≡ items_by name r.acts = ap (items_by name) acts ∙ same_items name r.acts in
    let stage : Stage = stage_at_session from r.tellings r.last r.told in
    let graph : HasOwnGraph stage = b.graph ∙ ap own_graph (sym (run_device (empty_service own) b.calls stage.service b.run)) in
    let nothing : own_events (last_id stage.names name) b.calls ≡ [] = ap (map (λ (x : Event × Option Reply). x.0)) (b.quiet (last_id stage.names name)) in
    let alone : answers_for name b.rest ≡ waited_text begin (items_by name (acts_of b.rest)) =
    text_in_order own b.calls stage r.last name width b.rest b.run graph nothing strip b.tells (ap (waits_for_each false) items ∙ waits) (subst (AreLeftAlone name) (sym acts) left) (b.replied replied) in
    let in_order : text_of name (sections_after [] r.tellings) ≡ waited_text begin (items_by name r.acts) = section_is name r.tellings ∙ (sym b.text_is ∙ (alone ∙ ap (waited_text begin) items)) in
    let other_own : Device = device_of other s.arch in
    let other_begin : ℕ → State = λ w. start s.arch (strip_on other_own w) in
    let cs : List Conversation = s.served.ran.conversations in
    let input_is : items_of (input_of name (map (λ (c : Conversation). c.said) cs)) ≡ items_by name r.acts = ap (λ said. items_of (input_of name said)) s.served.ran.said ∙ sym (read.same.items name) in
    let told : text_of name (map told_in cs) ≡ waited_text (other_begin width) (items_of (input_of name (map (λ (c : Conversation). c.said) cs))) =
    conversation name width s.served.names s.served.service other_begin cs (same_with other_own s.parts s.answered s.served) s.served.ran.live other_replied other_strip
    (ap (waits_for_each false) input_is ∙ waits) in
    let state_of : Arch → ℕ → State = λ arch rows. start arch (record { width = width; rows = rows; io_rat = arch.io_rat }) in
    let same_begin : other_begin width ≡ begin = ap (λ arch. state_of arch other.rows) (sym read.arch_is) ∙ ap (state_of r.arch) (sym device.2) in
    let on_threads : text_of name (map section_of s.answered.sections.items) ≡ waited_text begin (items_by name r.acts) =
    ap (text_of name) s.served.ran.sections_are
    ∙ (told ∙ (ap (λ state. waited_text state (items_of (input_of name (map (λ (c : Conversation). c.said) cs)))) same_begin ∙ ap (waited_text begin) input_is)) in
    (in_order, on_threads)
