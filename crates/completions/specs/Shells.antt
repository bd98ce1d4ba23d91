-- What shells are told of a program's tools and options.
use Rattle.std.specs.Prelude.{ℕ, ◌==◌, ◌||◌, List, [], ◌∷◌, ◌++◌, codes, if◌then◌else◌}
use Rattle.std.specs.List.{concat, flat_map}
use Rattle.option_words.specs.declared.declared.OptionWord.{OptionWord}
use Rattle.option_words.specs.declared.declared.Program.{Program}
use Rattle.option_words.specs.declared.declared.Takes.{Takes}
use Rattle.option_words.specs.declared.declared.Takes.TheVariants.{Text, GivenText, Number, Long, Word, Nothing, Alone}

-- the names of tools, each before a blank
abbrev pub name_word : Program → List ℕ
name_word tool = concat (tool.name.now ∷ codes " " ∷ [])

abbrev pub names_text : List Program → List ℕ
names_text tools = flat_map name_word tools

-- an option that is given by its name
abbrev pub dashed : List ℕ → List ℕ
dashed name = concat (codes "--" ∷ name ∷ codes " " ∷ [])

abbrev pub option_word_as : List ℕ → Takes → List ℕ
option_word_as name Text = dashed name
option_word_as name GivenText = dashed name
option_word_as name (Number least most) = dashed name
option_word_as name Long = dashed name
option_word_as name (Word words) = dashed name
option_word_as name Nothing = dashed name
option_word_as name Alone = []

abbrev pub option_word : OptionWord → List ℕ
option_word option = option_word_as option.name.now option.takes

-- a case of bash's and zsh's scripts: the options of a tool; none of a tool without options
abbrev pub case_front : Program → List ℕ
case_front tool = concat (codes "    " ∷ tool.name.now ∷ codes ") options='" ∷ [])

abbrev pub case_text : Program → List ℕ
case_text tool = case_front tool ++ (flat_map option_word tool.options.now ++ codes "' ;;\n")

abbrev pub cases_text : List Program → List ℕ
cases_text tools = flat_map case_text tools

-- a byte in the quotes of fish
abbrev pub fish_byte : ℕ → List ℕ
fish_byte byte = if (byte == 39) || (byte == 92) then 92 ∷ byte ∷ [] else byte ∷ []

abbrev pub fish_quoted : List ℕ → List ℕ
fish_quoted bytes = codes "'" ++ (flat_map fish_byte bytes ++ codes "'\n")

-- the lines of fish: a tool, and an option of it
abbrev pub fish_name_front : Program → List ℕ
fish_name_front tool = concat (codes "complete -c fpgad_desk -n __fish_use_subcommand -f -a " ∷ tool.name.now ∷ codes " -d " ∷ [])

abbrev pub fish_name : Program → List ℕ
fish_name tool = fish_name_front tool ++ fish_quoted tool.about.now

abbrev pub fish_names : List Program → List ℕ
fish_names tools = flat_map fish_name tools

abbrev pub fish_front : List ℕ → List ℕ → List ℕ → List ℕ
fish_front tool name value = concat (codes "complete -c fpgad_desk -n '__fish_seen_subcommand_from " ∷ tool ∷ codes "' -l " ∷ name ∷ value ∷ codes " -d " ∷ [])

abbrev pub fish_line : List ℕ → OptionWord → List ℕ → List ℕ
fish_line tool option value = fish_front tool option.name.now value ++ fish_quoted option.help.now

abbrev pub fish_option_as : List ℕ → OptionWord → Takes → List ℕ
fish_option_as tool option Text = fish_line tool option (codes " -r")
fish_option_as tool option GivenText = fish_line tool option (codes " -r")
fish_option_as tool option (Number least most) = fish_line tool option (codes " -r")
fish_option_as tool option Long = fish_line tool option (codes " -r")
fish_option_as tool option (Word words) = fish_line tool option (codes " -r")
fish_option_as tool option Nothing = fish_line tool option []
fish_option_as tool option Alone = []

abbrev pub fish_option : List ℕ → OptionWord → List ℕ
fish_option tool option = fish_option_as tool option option.takes

abbrev pub fish_tool : Program → List ℕ
fish_tool tool = flat_map (fish_option tool.name.now) tool.options.now

abbrev pub fish_options : List Program → List ℕ
fish_options tools = flat_map fish_tool tools
