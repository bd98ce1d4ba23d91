-- What `files` prints.
use Rattle.std.specs.Prelude.{ℕ, ◌-◌, List, [], ◌∷◌, ◌++◌, Bool, true, false, codes, decimal, length, Option}
use Rattle.std.specs.List.{concat, flat_map}
use Rattle.desk_replies.specs.Prelude.{usages_json, AreFactsOf, ShowsUsages, NameFacts, LineCounts, json_text, TakesAll, NameAccount, told_text, ToldLine}
use Rattle.desk_replies.specs.declared.files.FilesForm.{FilesForm}
use Rattle.desk_replies.specs.declared.files.FilesForm.TheVariants.{Lines, Table, Json}

-- the numbers of lines that were served and refused, and of files
abbrev pub summary_text : LineCounts → List ℕ
summary_text counts = concat (
    codes "served " ∷ decimal counts.served ∷ codes ", refused " ∷ decimal counts.refused ∷ codes ", files written " ∷ decimal counts.files ∷ codes "\n" ∷ [])

module _ {S : Type 0} (contents : S → Option (List ℕ)) (has_failed : S → Bool) (old new : S) where
  -- the lines with their replies are written, then what each name used, and then the numbers
  abbrev pub AreLinesPrinted : List NameAccount → List ToldLine → LineCounts → Type 0
  AreLinesPrinted accounts told counts =
      (usages : List ℕ) × ShowsUsages false accounts usages × TakesAll contents has_failed old new (flat_map told_text told ++ (usages ++ summary_text counts))

  -- the table of what each name used is written
  abbrev pub IsTablePrinted : List NameAccount → Type 0
  IsTablePrinted accounts = (table : List ℕ) × ShowsUsages true accounts table × TakesAll contents has_failed old new table

  -- what each name used, and the numbers, are written as one object
  abbrev pub IsObjectPrinted : List NameAccount → LineCounts → Type 0
  IsObjectPrinted accounts counts =
      (names : List NameFacts) × AreFactsOf accounts names × TakesAll contents has_failed old new (json_text (usages_json counts.served counts.refused counts.files names))

  -- it is written in that form
  abbrev pub IsPrinted : FilesForm → List NameAccount → List ToldLine → LineCounts → Type 0
  IsPrinted Lines accounts told counts = AreLinesPrinted accounts told counts
  IsPrinted Table accounts told counts = IsTablePrinted accounts
  IsPrinted Json accounts told counts = IsObjectPrinted accounts counts

  -- with how many of the lines were served and refused, and a number of files
  abbrev pub IsPrintedFor : FilesForm → List NameAccount → List ToldLine → ℕ → Type 0
  IsPrintedFor form accounts told refused = (files : ℕ) × IsPrinted form accounts told (record { served = length told - refused; refused = refused; files = files })
