-- A script's lines with their replies, as a text.
use Rattle.std.specs.Prelude.{ℕ, List, [], ◌∷◌, ◌++◌, codes, decimal, Bool, false, is_some, if◌then◌else◌}
use Rattle.std.specs.Option.{option_map_or}
use Rattle.std.specs.List.{concat}
use Rattle.script_replies.specs.declared.listing.ToldLine.{ToldLine}
use Rattle.script_replies.specs.Usage.{is_refusal}

-- a text that is written only if something is there
abbrev pub text_if : Bool → List ℕ → List ℕ
text_if is_there text = if is_there then text else []

-- a line of the script with its number, and below it the first line of its reply; and what comes
-- before the advice
abbrev pub asked_text : ToldLine → List ℕ
asked_text told = concat (
    decimal told.number ∷ codes ": " ∷ told.line.now ∷ codes "\n"
    ∷ text_if (is_some told.reply) (codes "    ") ∷ option_map_or (λ r. r.now) told.reply [] ∷ text_if (is_some told.reply) (codes "\n")
    ∷ text_if (is_some told.advice) (codes "    ") ∷ [])

-- what a reply means, with the script's line of a netlist's fault before it
abbrev pub advice_text : ToldLine → List ℕ
advice_text told = concat (
    text_if (is_some told.fault) (codes "line ") ∷ option_map_or decimal told.fault [] ∷ text_if (is_some told.fault) (codes " of the script: ")
    ∷ option_map_or (λ a. a.now) told.advice [] ∷ [])

-- a line that is refused, by the first line of its reply
abbrev pub is_refused : ToldLine → Bool
is_refused told = option_map_or (λ reply. is_refusal reply.now) told.reply false

-- the number of lines that have the reply
abbrev pub count_words : Bool → List ℕ
count_words refused = if refused then codes " lines are refused so)" else codes " lines are answered so)"

abbrev pub count_text : ToldLine → List ℕ
count_text told = concat (
    text_if (is_some told.alike) (codes " (") ∷ option_map_or decimal told.alike [] ∷ text_if (is_some told.alike) (count_words (is_refused told)) ∷ [])

abbrev pub meaning_text : ToldLine → List ℕ
meaning_text told = advice_text told ++ count_text told

-- a line with its reply, and below them what the reply means
abbrev pub end_text : ToldLine → List ℕ
end_text told = concat (text_if (is_some told.advice) (codes "\n") ∷ [])

abbrev pub told_text : ToldLine → List ℕ
told_text told = asked_text told ++ (meaning_text told ++ end_text told)

-- a refused line in four lines: its number, the line, the first line of its reply, and what this
-- means; nothing of a line that isn't refused
abbrev pub reply_text : ToldLine → List ℕ
reply_text told = concat (
    decimal told.number ∷ codes "\n" ∷ told.line.now ∷ codes "\n" ∷ option_map_or (λ r. r.now) told.reply [] ∷ codes "\n" ∷ [])

abbrev pub refusal_text : ToldLine → List ℕ
refusal_text told = reply_text told ++ (meaning_text told ++ concat (codes "\n" ∷ []))

abbrev pub refused_text : ToldLine → List ℕ
refused_text told = if is_refused told then refusal_text told else []
