-- What `files` writes into the folder, and prints.
use Rattle.std.specs.Prelude.{ℕ, ◌≡◌, ◌-◌, ◌^◌, List, ◌++◌, Bool, count_by, map, Option, Ok, IfSome}
use Rattle.std.specs.List.{flat_map}
use Rattle.desk_replies.specs.Prelude.{AreAdded, IsBeginning, NamedBytes, AnsweredLine, NameAccount, accounts_of, replies_in, line_reply, line_replies, is_refused, lines_asked, numbered, ScriptLine, ToldLine, Act, script_of}
use Rattle.desk_replies.specs.Lines.{AreLines}
use Rattle.desk_replies.specs.Printed.{IsPrintedFor}
use Rattle.desk_replies.specs.Saved.{files_of_name, replies_files}
use Rattle.desk_replies.specs.declared.files.FilesJob.{FilesJob}
use Rattle.desk_replies.specs.declared.files.FilesWishes.{FilesWishes}
use Rattle.desk_replies.specs.declared.lines.Lines.{Lines}

-- the lines of a script with the first lines of their replies, and how many of them are refused
pub record AreTold (lines : Lines) (replies : List AnsweredLine) (told : List ToldLine) (refused : ℕ) : Type 0 where
  pub asked : List ScriptLine
  pub are_asked : map numbered asked ≡ lines_asked lines.number lines.text.now
  pub replied : map line_reply told ≡ line_replies asked replies
  pub counted : refused ≡ count_by is_refused told

module _ {S : Type 0} (contents : S → Option (List ℕ)) (has_failed : S → Bool) (before after : S) where
  -- private: exactly the present files of the accounts are written, and the files with the lines of
  -- each name; the lines are printed, with what each name used
  pub record AreSaved (job : FilesJob) (accounts : List NameAccount) (replies : List AnsweredLine) (refused : ℕ) (old new : Option (List NamedBytes)) : Type 0 where
    pub told : List ToldLine
    pub are_told : AreTold job.lines replies told refused
    pub written : AreAdded old new (flat_map (files_of_name job.wishes.folder.now) accounts ++ replies_files job.wishes.folder.now told replies)
    pub printed : IsPrintedFor contents has_failed before after job.wishes.form accounts told refused

  -- the acts are those of the lines, and the replies those in the whole input, if that is known
  pub record ArePrinted (input : Option (List ℕ)) (job : FilesJob) (refused : ℕ) (old new : Option (List NamedBytes)) : Type 0 where
    pub printed : List ℕ
    pub are_printed : IfSome input (λ bytes. printed ≡ bytes)
    pub acts : List (Act (List ℕ))
    pub are_acts : script_of job.lines.number job.lines.text.now ≡ Ok acts
    pub replies : List AnsweredLine
    pub are_replies : replies_in acts printed ≡ Ok replies
    pub saved : AreSaved job (accounts_of acts replies) replies refused old new

  -- The script is that of the file, and its replies are the input: exactly the present files of
  -- each name are written under its name, and its lines with their replies; and what is printed is
  -- that of these lines and replies. `refused` is how many of the lines are refused.
  pub record AreServed (text : List ℕ → Option (List ℕ)) (input : Option (List ℕ)) (wishes : FilesWishes) (refused : ℕ) (old new : Option (List NamedBytes)) : Type 0 where
    pub script : List ℕ
    pub read : IsBeginning (text wishes.script.now) (2 ^ 64 - 1) script
    pub job : FilesJob
    pub asked : job.wishes ≡ wishes
    pub lines : AreLines wishes.has_architecture script job.lines
    pub saved : ArePrinted input job refused old new
