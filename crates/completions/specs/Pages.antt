-- A program's tools and options on a page of the manual (roff).
use Rattle.std.specs.Prelude.{ℕ, ◌==◌, List, [], ◌∷◌, ◌++◌, codes, if◌then◌else◌}
use Rattle.std.specs.List.{concat, flat_map}
use Rattle.option_words.specs.declared.declared.OptionWord.{OptionWord}
use Rattle.option_words.specs.declared.declared.Program.{Program}
use Rattle.option_words.specs.declared.declared.Takes.{Takes}
use Rattle.option_words.specs.declared.declared.Takes.TheVariants.{Text, GivenText, Number, Long, Word, Nothing, Alone}

-- a byte as roff reads it: a backslash and a hyphen as themselves, and each line on its own
abbrev pub roff_byte : ℕ → List ℕ
roff_byte byte =
    if byte == 92 then codes "\\e"
    else (if byte == 45 then codes "\\-"
    else (if byte == 10 then codes "\n.br\n\\&" else byte ∷ []))

-- a text, whatever its lines begin with
abbrev pub roff_text : List ℕ → List ℕ
roff_text bytes = codes "\\&" ++ (flat_map roff_byte bytes ++ codes "\n")

abbrev pub option_head_as : OptionWord → Takes → List ℕ
option_head_as option Nothing = concat (codes ".TP\n.B \\-\\-" ∷ option.name.now ∷ codes "\n" ∷ [])
option_head_as option Alone = concat (codes ".TP\n.I " ∷ option.value_name.now ∷ codes "\n" ∷ [])
option_head_as option Text = concat (codes ".TP\n.BI \\-\\-" ∷ option.name.now ∷ codes " \" " ∷ option.value_name.now ∷ codes "\"\n" ∷ [])
option_head_as option GivenText = concat (codes ".TP\n.BI \\-\\-" ∷ option.name.now ∷ codes " \" " ∷ option.value_name.now ∷ codes "\"\n" ∷ [])
option_head_as option (Number least most) = concat (codes ".TP\n.BI \\-\\-" ∷ option.name.now ∷ codes " \" " ∷ option.value_name.now ∷ codes "\"\n" ∷ [])
option_head_as option Long = concat (codes ".TP\n.BI \\-\\-" ∷ option.name.now ∷ codes " \" " ∷ option.value_name.now ∷ codes "\"\n" ∷ [])
option_head_as option (Word words) = concat (codes ".TP\n.BI \\-\\-" ∷ option.name.now ∷ codes " \" " ∷ option.value_name.now ∷ codes "\"\n" ∷ [])

-- an option: its name and the name of its value, and its help
abbrev pub page_option : OptionWord → List ℕ
page_option option = option_head_as option option.takes ++ roff_text option.help.now

abbrev pub tool_head : Program → List ℕ
tool_head tool = concat (codes ".SH " ∷ tool.name.now ∷ codes "\n" ∷ [])

-- a tool: what it is for, its options, and what its help says at its end
abbrev pub page_tool : Program → List ℕ
page_tool tool = tool_head tool ++ (roff_text tool.about.now ++ (flat_map page_option tool.options.now ++ (codes ".PP\n" ++ roff_text tool.after_help.now)))

abbrev pub page_tools : List Program → List ℕ
page_tools tools = flat_map page_tool tools
