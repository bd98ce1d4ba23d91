-- What the options of tools ask for.
use Rattle.std.specs.Prelude.{◌≡◌, true, false, is_none, Some, option_map, codes}
use Rattle.desk_replies.specs.Prelude.{Given, is_given, text_of, DeviceSize}
use Rattle.option_words.specs.Values.{number_of}
use Rattle.desk_replies.specs.declared.files.FilesForm.{FilesForm}
use Rattle.desk_replies.specs.declared.files.FilesForm.TheVariants as files
use Rattle.desk_replies.specs.declared.files.FilesWishes.{FilesWishes}
use Rattle.desk_replies.specs.declared.page_tool.PageWishes.{PageWishes}
use Rattle.desk_replies.specs.declared.report.ReportForm.{ReportForm}
use Rattle.desk_replies.specs.declared.report.ReportForm.TheVariants as report
use Rattle.desk_replies.specs.declared.report.ReportWishes.{ReportWishes}

-- each size of a device is that of its own option
pub record IsDeviceAskedFor (given : Given) (size : DeviceSize) : Type 0 where
  pub columns : number_of 32 given (codes "columns") ≡ Some size.columns
  pub rows : number_of 32 given (codes "rows") ≡ Some size.rows
  pub tracks : number_of 32 given (codes "tracks") ≡ Some size.tracks
  pub pads : number_of 32 given (codes "pads") ≡ Some size.pads

-- what `files` prints is what is given
abbrev pub IsFilesForm : Given → FilesForm → Type 0
IsFilesForm given files.Lines = (is_given given (codes "csv") ≡ false) × (is_given given (codes "json") ≡ false)
IsFilesForm given files.Table = (is_given given (codes "csv") ≡ true) × (is_given given (codes "json") ≡ false)
IsFilesForm given files.Json = (is_given given (codes "csv") ≡ false) × (is_given given (codes "json") ≡ true)

-- each wish of `files` is that of its own option
pub record IsFilesAskedFor (given : Given) (wishes : FilesWishes) : Type 0 where
  pub script : text_of given (codes "script") ≡ Some wishes.script.now
  pub folder : text_of given (codes "folder") ≡ Some wishes.folder.now
  pub has_architecture : wishes.has_architecture ≡ is_none (text_of given (codes "arch"))
  pub form : IsFilesForm given wishes.form

-- what `report` prints is what is given
abbrev pub IsReportForm : Given → ReportForm → Type 0
IsReportForm given report.Lines = (is_given given (codes "csv") ≡ false) × (is_given given (codes "json") ≡ false) × (is_given given (codes "moves") ≡ false)
IsReportForm given report.Table = (is_given given (codes "csv") ≡ true) × (is_given given (codes "json") ≡ false) × (is_given given (codes "moves") ≡ false)
IsReportForm given report.Json = (is_given given (codes "csv") ≡ false) × (is_given given (codes "json") ≡ true) × (is_given given (codes "moves") ≡ false)
IsReportForm given report.Moves = (is_given given (codes "csv") ≡ false) × (is_given given (codes "json") ≡ false) × (is_given given (codes "moves") ≡ true)

-- each wish of `report` is that of its own option
pub record IsReportAskedFor (given : Given) (wishes : ReportWishes) : Type 0 where
  pub size : IsDeviceAskedFor given wishes.size
  pub form : IsReportForm given wishes.form
  pub script : option_map (λ path. path.now) wishes.script ≡ text_of given (codes "script")
  pub arch : option_map (λ path. path.now) wishes.arch ≡ text_of given (codes "arch")

-- each wish of `page` is that of its own option
pub record IsPageAskedFor (given : Given) (wishes : PageWishes) : Type 0 where
  pub script : text_of given (codes "script") ≡ Some wishes.script.now
  pub columns : option_map (λ text. text.now) wishes.columns ≡ text_of given (codes "columns")
  pub tracks : option_map (λ text. text.now) wishes.tracks ≡ text_of given (codes "tracks")
  pub rows : option_map (λ text. text.now) wishes.rows ≡ text_of given (codes "rows")
  pub arch : option_map (λ path. path.now) wishes.arch ≡ text_of given (codes "arch")
