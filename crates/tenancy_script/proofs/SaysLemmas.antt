-- The acts of a tenancy's script, line by line.
use Rattle.tenancy_script.proofs.Prelude.{◌≡◌, ℕ, ◌+◌, ◌<◌, ◌≤◌, ◌^◌, List, [], ◌∷◌, ◌++◌, Bool, true, false, not, cond, length, codes, decimal, Option, Some, None, Ok, refl, sym, ap, subst, ◌∙◌, arith, append_assoc, map, option_map, IfSome, flat_map, list_all, true≢false, physical_lines, Pack, Place, Route, Net, PlaceFile, RouteFile, SessionLine, Command, Wait, Upload, LineForm, Asks, Begins, without_cr, ends_text, text_ahead, text_item, line_form, kept-all, Act, Operator, Session, Admit, acts_from, begins_text, form_by, form_in, form_of, is_name, script_of, session_form, with_act, with_line, TenancyScript, last_feed, is_ended, place_line, printed_script, printed_admission, printed_commands, printed_end, printed_upload, session_line, text_fault, uploaded_text, IsWhole, acts_of, with_admission, session_lines, followed_by, is_within}
use Rattle.tenant_slot.specs.declared.command.Command.TheVariants.{Upload as UploadText}
use Rattle.tenancy_script.proofs.FaultLemmas.{AreTold, HaveNoPoint, ended_line, told_from}
use Rattle.tenancy_script.proofs.FormLemmas.{admission_is, admission_line, admission_plain, placing_is, placing_plain, placing_words, session_is, session_plain}
use Rattle.tenancy_script.proofs.TextLemmas.{ended-append, is_plain, line_first, lines-append, lines-closing}

-- the text has these acts, whatever the number of its first line, and leaves no upload open
pub record Says (text : List ℕ) (acts : List (Act (List ℕ))) : Type 0 where
  pub said : (number : ℕ) → script_of number text ≡ Ok acts
  pub outside : is_within false (physical_lines text) ≡ false

nothing_says : Says [] []
nothing_says = record { said = λ number. refl; outside = refl }

-- a line that is an act by itself
abbrev pub IsAsked : List ℕ → Act (List ℕ) → Type 0
IsAsked line act = (number : ℕ) (lines : List (List ℕ)) → (acts_from number false (line ∷ lines) ≡ with_act act (acts_from (number + 1) false lines)) × (is_within false (line ∷ lines) ≡ is_within false lines)

line_says : (line more : List ℕ) (act : Act (List ℕ)) (acts : List (Act (List ℕ))) → list_all is_plain line ≡ true → IsAsked line act → Says more acts → Says (line ++ 10 ∷ more) (act ∷ acts)
line_says line more act acts plain session_lines h =
    let first : physical_lines (line ++ 10 ∷ more) ≡ line ∷ physical_lines more = line_first line more plain in
    record {
      said = λ number. ap (acts_from number false) first ∙ (session_lines number (physical_lines more)).0 ∙ ap (with_act act) (h.said (number + 1));
      outside = ap (is_within false) first ∙ (session_lines 0 (physical_lines more)).1 ∙ h.outside;
    }

-- a line of the name's session
session_asked : (name words : List ℕ) (item : SessionLine) → is_name name ≡ true → list_all is_plain words ≡ true → line_form words ≡ Asks item → IsAsked (64 ∷ name ++ 32 ∷ words) (Session name item)
session_asked name words item is plain form number lines = grind (arith, session_is)

session_says : (name words more : List ℕ) (item : SessionLine) (acts : List (Act (List ℕ))) → is_name name ≡ true → list_all is_plain words ≡ true → line_form words ≡ Asks item → Says more acts →
    Says (session_line name words more) (Session name item ∷ acts)
session_says name words more item acts is plain form h = grind (arith, append_assoc, line_says (64 ∷ name ++ 32 ∷ words) more (Session name item) acts (session_plain name words is plain) (session_asked name words item is plain form) h)

-- the lines of an upload, up to the one that ends it
ahead_told : (lines more : List (List ℕ)) → HaveNoPoint lines → text_ahead (lines ++ (46 ∷ []) ∷ more) ≡ Some (flat_map ended_line lines)
ahead_told [] more none = refl
ahead_told (line ∷ lines) more none = grind (arith, append_assoc, ahead_told lines more none.1)

acts_told : (lines more : List (List ℕ)) (acts : List (Act (List ℕ))) → HaveNoPoint lines → ((number : ℕ) → acts_from number false more ≡ Ok acts) → (number : ℕ) → acts_from number true (lines ++ (46 ∷ []) ∷ more) ≡ Ok acts
acts_told [] more acts none said number = said (number + 1)
acts_told (line ∷ lines) more acts none said number = grind (arith, acts_told lines more acts none.1 said (number + 1))

within_told : (lines more : List (List ℕ)) → HaveNoPoint lines → is_within true (lines ++ (46 ∷ []) ∷ more) ≡ is_within false more
within_told [] more none = refl
within_told (line ∷ lines) more none = ap (λ v. is_within (not v) (lines ++ (46 ∷ []) ∷ more)) none.0 ∙ within_told lines more none.1

-- an upload has exactly its text
upload_says : (name text more : List ℕ) (acts : List (Act (List ℕ))) → is_name name ≡ true → AreTold 1048576 (physical_lines text) → Says more acts →
    Says (session_line name (codes "upload") (text ++ (last_feed text ++ 46 ∷ 10 ∷ more))) (Session name (Command (UploadText (uploaded_text text))) ∷ acts)
upload_says name text more acts is told h =
    let line : List ℕ = 64 ∷ name ++ 32 ∷ codes "upload" in
    let rest : List ℕ = text ++ (last_feed text ++ 46 ∷ 10 ∷ more) in
    let lines : List (List ℕ) = physical_lines text ++ (46 ∷ []) ∷ physical_lines more in
    let form : form_of line ≡ session_form name (Begins Upload) = session_is name (codes "upload") is refl in
    let first : physical_lines (line ++ 10 ∷ rest) ≡ line ∷ physical_lines rest = line_first line rest (session_plain name (codes "upload") is refl) in
    let others : physical_lines rest ≡ lines = lines-closing text (46 ∷ 10 ∷ more) in
    let fits : length (uploaded_text text) ≤ 1048577 = omega (arith, told.1) in
    subst (λ t. Says t (Session name (Command (UploadText (uploaded_text text))) ∷ acts)) (ap (λ t. 64 ∷ t) (append_assoc name (32 ∷ codes "upload") (10 ∷ rest))) record {
      said = λ number. ap (acts_from number false) first
          ∙ ap (λ f. with_line number f (physical_lines rest) (acts_from (number + 1) (begins_text f) (physical_lines rest))) form
          ∙ ap (λ ls. with_act (Session name (text_item Upload (text_ahead ls))) (acts_from (number + 1) true ls)) others
          ∙ ap (λ ahead. with_act (Session name (text_item Upload ahead)) (acts_from (number + 1) true lines)) (ahead_told (physical_lines text) (physical_lines more) told.0)
          ∙ ap (with_act (Session name (text_item Upload (Some (uploaded_text text))))) (acts_told (physical_lines text) (physical_lines more) acts told.0 h.said (number + 1))
          ∙ ap (λ t. Ok (Session name (Command (UploadText t)) ∷ acts)) (kept-all (uploaded_text text) fits);
      outside = ap (is_within false) first ∙ ap (λ f. is_within (begins_text f) (physical_lines rest)) form
          ∙ ap (is_within true) others ∙ within_told (physical_lines text) (physical_lines more) told.0 ∙ h.outside;
    }

-- the commands of the tenancy
end_says : (name : List ℕ) → is_name name ≡ true → Says (printed_end name) (map (Session name) (Wait ∷ Command Route ∷ Wait ∷ Command Net ∷ Command PlaceFile ∷ Command RouteFile ∷ []))
end_says name is =
    session_says name (codes "wait") _ Wait _ is refl refl
    (session_says name (codes "route") _ (Command Route) _ is refl refl
    (session_says name (codes "wait") _ Wait _ is refl refl
    (session_says name (codes "net") _ (Command Net) _ is refl refl
    (session_says name (codes "placefile") _ (Command PlaceFile) _ is refl refl
    (session_says name (codes "routefile") _ (Command RouteFile) _ is refl refl nothing_says)))))

place_says : (name more : List ℕ) (seed effort : ℕ) (acts : List (Act (List ℕ))) → is_name name ≡ true → seed < 2 ^ 64 → effort < 2 ^ 32 → Says more acts → Says (place_line name seed effort more) (Session name (Command (Place seed effort)) ∷ acts)
place_says name more seed effort acts is s e h = grind (arith, append_assoc, session_says name (placing_words seed effort) more (Command (Place seed effort)) acts is (placing_plain seed effort s e) (placing_is seed effort s e) h)

abbrev commands_asked : ℕ → ℕ → List SessionLine
commands_asked seed effort = Command Pack ∷ Wait ∷ Command (Place seed effort) ∷ Wait ∷ Command Route ∷ Wait ∷ Command Net ∷ Command PlaceFile ∷ Command RouteFile ∷ []

commands_say : (name : List ℕ) (seed effort : ℕ) → is_name name ≡ true → seed < 2 ^ 64 → effort < 2 ^ 32 →
    Says (printed_commands name seed effort) (map (Session name) (commands_asked seed effort))
commands_say name seed effort is s e =
    session_says name (codes "pack") _ (Command Pack) _ is refl refl
    (session_says name (codes "wait") _ Wait _ is refl refl
    (place_says name _ seed effort _ is s e (end_says name is)))

-- the whole session
session_is_said : (name text : List ℕ) (seed effort : ℕ) → is_name name ≡ true → AreTold 1048576 (physical_lines text) → seed < 2 ^ 64 → effort < 2 ^ 32 →
    Says (printed_upload name text ++ printed_commands name seed effort) (map (Session name) (session_lines (uploaded_text text) seed effort))
session_is_said name text seed effort is told s e = search (append_assoc, upload_says, commands_say, arith)

-- and the admission before it
admission_asked : (name : List ℕ) (width : ℕ) → is_name name ≡ true → width < 2 ^ 32 → IsAsked (admission_line name width) (Operator (Admit name width))
admission_asked name width is w number lines = grind (arith, admission_is)

admission_said : (width : Option ℕ) (name more : List ℕ) (acts : List (Act (List ℕ))) → is_name name ≡ true → IfSome width (λ w. w < 2 ^ 32) → Says more acts → Says (printed_admission width name ++ more) (with_admission width name acts)
admission_said None name more acts is small h = h
admission_said (Some width) name more acts is small h =
    let w : width < 2 ^ 32 = small in
    let rest : List ℕ = 32 ∷ decimal width in
    let assoc : admission_line name width ++ 10 ∷ more ≡ printed_admission (Some width) name ++ more =
    ap (λ t. codes "op admit " ++ t) (append_assoc name rest (10 ∷ more)
    ∙ ap (λ t. name ++ 32 ∷ t) (sym (append_assoc (decimal width) (10 ∷ []) more))
    ∙ sym (append_assoc name (32 ∷ (decimal width ++ 10 ∷ [])) more)) in
    subst (λ t. Says t (Operator (Admit name width) ∷ acts)) assoc
    (line_says (admission_line name width) more (Operator (Admit name width)) acts (admission_plain name width is w) (admission_asked name width is w) h)

pub printed_says : (script : TenancyScript) → is_name script.name.now ≡ true → text_fault script.text.now ≡ None → IfSome script.width (λ w. w < 2 ^ 32) → script.seed < 2 ^ 64 → script.effort < 2 ^ 32 → Says (printed_script script) (acts_of script)
printed_says script is none w s e = search (admission_said, session_is_said, told_from, arith)

-- after the lines of a whole script

ahead_stays : (lines more : List (List ℕ)) → is_within true lines ≡ false → text_ahead (lines ++ more) ≡ text_ahead lines
ahead_stays [] more whole = absurd (true≢false whole)
ahead_stays (line ∷ lines) more whole =
    elim (ends_text line) as (λ v. is_within (not v) lines ≡ false → cond v (Some []) (option_map (λ text. without_cr line ++ 10 ∷ text) (text_ahead (lines ++ more))) ≡ cond v (Some []) (option_map (λ text. without_cr line ++ 10 ∷ text) (text_ahead lines))) [
      | true ↦ λ w. refl
      | false ↦ λ w. ap (option_map (λ text. without_cr line ++ 10 ∷ text)) (ahead_stays lines more w)
    ] whole

-- the form of a line
abbrev Domain : {A B : Type 0} → (A → B) → Type 0
Domain {A} f = A

-- after a line of that form and these lines, the acts are appended
abbrev Follows : ℕ → List (List ℕ) → List (List ℕ) → List (Act (List ℕ)) → Domain begins_text → Type 0
Follows number lines more acts form =
    is_within (begins_text form) lines ≡ false →
    with_line number form (lines ++ more) (acts_from (number + 1) (begins_text form) (lines ++ more)) ≡ followed_by (with_line number form lines (acts_from (number + 1) (begins_text form) lines)) acts

-- they are appended after the lines that follow that line
abbrev FollowRest : ℕ → List (List ℕ) → List (List ℕ) → List (Act (List ℕ)) → Type 0
FollowRest number lines more acts = (within : Bool) → is_within within lines ≡ false → acts_from (number + 1) within (lines ++ more) ≡ followed_by (acts_from (number + 1) within lines) acts

session_follows : (number : ℕ) (lines more : List (List ℕ)) (acts : List (Act (List ℕ))) → FollowRest number lines more acts → (name : List ℕ) (form : LineForm) → Follows number lines more acts (session_form name form)
session_follows number lines more acts rest name form = grind (arith, ahead_stays)

form_follows : (number : ℕ) (lines more : List (List ℕ)) (acts : List (Act (List ℕ))) → FollowRest number lines more acts → (first others : List ℕ) → Follows number lines more acts (form_by first others)
form_follows number lines more acts rest first others = search (session_follows, arith)

line_follows : (number : ℕ) (lines more : List (List ℕ)) (acts : List (Act (List ℕ))) → FollowRest number lines more acts → (line : List ℕ) → Follows number lines more acts (form_of line)
unfolding form_in
line_follows number lines more acts rest line = grind (arith, form_follows)

acts_behind : (more : List (List ℕ)) (acts : List (Act (List ℕ))) → ((number : ℕ) → acts_from number false more ≡ Ok acts) → (lines : List (List ℕ)) (within : Bool) → is_within within lines ≡ false → (number : ℕ) →
    acts_from number within (lines ++ more) ≡ followed_by (acts_from number within lines) acts
acts_behind more acts said [] true whole number = absurd (true≢false whole)
acts_behind more acts said [] false whole number = said number
acts_behind more acts said (line ∷ lines) true whole number = acts_behind more acts said lines (not (ends_text line)) whole (number + 1)
acts_behind more acts said (line ∷ lines) false whole number =
    line_follows number lines more acts (λ within w. acts_behind more acts said lines within w (number + 1)) line whole

pub says_behind : (text : List ℕ) (acts : List (Act (List ℕ))) → Says text acts → (number : ℕ) (before : List ℕ) → IsWhole before → script_of number (before ++ text) ≡ followed_by (script_of number before) acts
says_behind text acts h number before whole = grind (arith, lines-append, acts_behind)

within-append : (within : Bool) (lines more : List (List ℕ)) → is_within within lines ≡ false → is_within within (lines ++ more) ≡ is_within false more
within-append true [] more whole = absurd (true≢false whole)
within-append false [] more whole = refl
within-append true (line ∷ lines) more whole = within-append (not (ends_text line)) lines more whole
within-append false (line ∷ lines) more whole = within-append (begins_text (form_of line)) lines more whole

pub whole_behind : (text before : List ℕ) (acts : List (Act (List ℕ))) → Says text acts → is_ended text ≡ true → 0 < length text → IsWhole before → IsWhole (before ++ text)
whole_behind text before acts h ended some whole = grind (arith, ended-append, lines-append, within-append)

-- each line of the script ends with LF
some_first : (b : ℕ) (text : List ℕ) → 0 < length (b ∷ text)
some_first b text = omega arith

session_ends : (name words more : List ℕ) → is_ended (10 ∷ more) ≡ true → is_ended (session_line name words more) ≡ true
session_ends name words more h = grind (arith, ended-append (64 ∷ name) (32 ∷ (words ++ 10 ∷ more)) (some_first 32 (words ++ 10 ∷ more)), ended-append (32 ∷ words) (10 ∷ more) (some_first 10 more))

end_ends : (name : List ℕ) → is_ended (printed_end name) ≡ true
end_ends name =
    session_ends name (codes "wait") _ (session_ends name (codes "route") _ (session_ends name (codes "wait") _
    (session_ends name (codes "net") _ (session_ends name (codes "placefile") _ (session_ends name (codes "routefile") [] refl)))))

place_ends : (name more : List ℕ) (seed effort : ℕ) → is_ended (10 ∷ more) ≡ true → is_ended (place_line name seed effort more) ≡ true
place_ends name more seed effort h = grind (arith, append_assoc (decimal seed) (32 ∷ decimal effort) (10 ∷ more), session_ends name (placing_words seed effort) more h)

commands_end : (name : List ℕ) (seed effort : ℕ) → is_ended (printed_commands name seed effort) ≡ true
commands_end name seed effort =
    session_ends name (codes "pack") _ (session_ends name (codes "wait") _ (place_ends name (printed_end name) seed effort (end_ends name)))

pub printed_ends : (script : TenancyScript) → is_ended (printed_script script) ≡ true
printed_ends script = search (ended-append, some_first, commands_end, arith)

pub printed_some : (script : TenancyScript) → 0 < length (printed_script script)
printed_some script = grind arith
