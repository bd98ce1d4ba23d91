-- Whose the lines are that are handed over.
use Rattle.front_lines.proofs.Prelude.{◌≡◌, ℕ, List, [], ◌∷◌, ◌++◌, Bool, true, ◌&&◌, ◌||◌, map, refl, ap, ◌∙◌, arith, list_all, list_any, bytes_eq, physical_lines, Tagged, are_of, have_tags, is_tag, is_whole, output_of, tag_of, both, lines as lines_are, whole as whole_is, with_marks, tag_in, Speaker, ClientState, Item, handed, handed_for, item_of, state_after, HandOver, Nothing, Refuse}

abbrev commands_in : Speaker → Item → List (List ℕ)
commands_in who Nothing = []
commands_in who (HandOver command) = with_marks who command ∷ []
commands_in who (Refuse refusal) = []

abbrev commands_of : Speaker → ClientState → List (List ℕ) → List (List ℕ)
commands_of who state [] = []
commands_of who state (line ∷ lines) = commands_in who (item_of state line) ++ commands_of who (state_after state line) lines

abbrev with_tag : List ℕ → List ℕ → Tagged
with_tag tag command = record { tag = tag; text = command }

item_is : (who : Speaker) (item : Item) (more : List (List ℕ)) → handed_for who item ++ output_of (map (with_tag (tag_in who)) more) ≡ output_of (map (with_tag (tag_in who)) (commands_in who item ++ more))
item_is who item more = grind arith

handed_is : (who : Speaker) (state : ClientState) (lines : List (List ℕ)) → handed who state lines ≡ output_of (map (with_tag (tag_in who)) (commands_of who state lines))
handed_is who state [] = refl
handed_is who state (line ∷ lines) = grind (arith, handed_is who (state_after state line) lines)

all_have : (tag : List ℕ) (commands : List (List ℕ)) → is_tag tag ≡ true → have_tags (map (with_tag tag) commands) ≡ true
all_have tag [] ok = refl
all_have tag (command ∷ commands) ok = ap (λ b. b && have_tags (map (with_tag tag) commands)) ok ∙ all_have tag commands ok

or_same : (a b : Bool) → a || b ≡ true → (b ≡ true → a ≡ true) → a ≡ true
or_same a b e more = grind arith

any_own : (tag line : List ℕ) (commands : List (List ℕ)) → list_any (λ t. bytes_eq (tag_of line) t.tag) (map (with_tag tag) commands) ≡ true → bytes_eq (tag_of line) tag ≡ true
any_own tag line [] e = absurd (cc)
any_own tag line (command ∷ commands) e = or_same (bytes_eq (tag_of line) tag) (list_any (λ t. bytes_eq (tag_of line) t.tag) (map (with_tag tag) commands)) e (any_own tag line commands)

abbrev has_tag : List ℕ → List ℕ → Bool
has_tag tag line = bytes_eq (tag_of line) tag

are_own : (tag : List ℕ) (commands lines : List (List ℕ)) → are_of (map (with_tag tag) commands) lines ≡ true → list_all (has_tag tag) lines ≡ true
are_own tag commands [] are = refl
are_own tag commands (line ∷ lines) are =
    let parts = both (list_any (λ t. bytes_eq (tag_of line) t.tag) (map (with_tag tag) commands)) (are_of (map (with_tag tag) commands) lines) are in
    ap (λ b. b && list_all (has_tag tag) lines) (any_own tag line commands parts.0) ∙ are_own tag commands lines parts.1

pub own : (who : Speaker) (state : ClientState) (lines : List (List ℕ)) → is_tag (tag_in who) ≡ true → list_all (has_tag (tag_in who)) (physical_lines (handed who state lines)) ≡ true
own who state lines ok =
    let tag = tag_in who in
    let commands = commands_of who state lines in
    ap (λ bytes. list_all (has_tag tag) (physical_lines bytes)) (handed_is who state lines)
    ∙ are_own tag commands (physical_lines (output_of (map (with_tag tag) commands))) (lines_are (map (with_tag tag) commands) (all_have tag commands ok))

pub whole : (who : Speaker) (state : ClientState) (lines : List (List ℕ)) → is_whole (handed who state lines) ≡ true
whole who state lines = ap is_whole (handed_is who state lines) ∙ whole_is (map (with_tag (tag_in who)) (commands_of who state lines))
