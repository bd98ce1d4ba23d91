-- The contributions of a text's lines, as lists over all of them.
use Rattle.std.specs.Prelude.{ℕ, Bool, true, false, not, List, [], Option, None, filter, fold}
use Rattle.std.specs.List.{flat_map, list_any}
use Rattle.line_text.specs.Lines.{JoinedLine}
use Rattle.line_text.specs.Words.{is_filled}
use Rattle.blif.specs.declared.cover.Cover.{Cover}
use Rattle.blif.specs.declared.keyword.Keyword.{Keyword}
use Rattle.blif.specs.declared.keyword.Keyword.TheVariants.{End}
use Rattle.blif.specs.Names.{has_name, with_names}
use Rattle.blif.specs.Keywords.{keyword_of}
use Rattle.blif.specs.LineNets.{names_in, drives_in, inputs_in, clocks_in, outputs_in}
use Rattle.blif.specs.Covers.{cover_after}

-- the state after some lines: the inputs that the whole text declares in `.inputs` lines; whether
-- there was a line, and whether the end was reached; the nets, in the order in which they first
-- appear; the nets that inputs, tables and latches drive, and the clocks that are not declared
-- inputs; the circuit's outputs; the cover that a row would continue
pub record Sights : Type 0 where
  pub declared : List (List ℕ)
  pub begun : Bool
  pub ended : Bool
  pub nets : List (List ℕ)
  pub drivers : List (List ℕ)
  pub clocks : List (List ℕ)
  pub outputs : List (List ℕ)
  pub cover : Option Cover

-- whether a line of this kind ends the model
abbrev pub is_end : Keyword → Bool
is_end End = true
is_end keyword = false

-- the kind of the line
abbrev pub kind_of : JoinedLine → Keyword
kind_of line = keyword_of line.words

-- the nets that the line names
abbrev pub names_of : JoinedLine → List (List ℕ)
names_of line = names_in (kind_of line) line.words

-- the inputs that the line declares
abbrev pub inputs_of : JoinedLine → List (List ℕ)
inputs_of line = inputs_in (kind_of line) line.words

-- the outputs that the line declares
abbrev pub outputs_of : JoinedLine → List (List ℕ)
outputs_of line = outputs_in (kind_of line) line.words

-- the state after these lines
unfoldable pub sights_of : List (List ℕ) → List JoinedLine → Sights
sights_of declared lines = record {
  declared = declared;
  begun = is_filled lines;
  ended = list_any (λ line. is_end (kind_of line)) lines;
  nets = with_names [] (flat_map names_of lines);
  drivers = flat_map (λ line. drives_in (kind_of line) line.words) lines;
  clocks = with_names [] (filter (λ name. not (has_name declared name)) (flat_map (λ line. clocks_in (kind_of line) line.words) lines));
  outputs = flat_map outputs_of lines;
  cover = fold (λ cover line. cover_after (kind_of line) line.words cover) None lines;
}
