-- What is written for an input: a picture or a refusal, and what a call of `draw` read and wrote beside its answer.
use Rattle.std.specs.Prelude.{◌≡◌, ℕ, ◌<◌, ◌≤◌, List, length, Err, Some}
use Rattle.std.specs.declared.option.Option.{Option}
use Rattle.mwt_base.specs.Limits.{most_bytes}
use Rattle.mwt_base.specs.Told.{Grows, GrowsByPrefix, IsTold}
use Rattle.mwt_base.specs.declared.status.Status.{Status}
use Rattle.mwt_base.specs.declared.status.Status.TheVariants.{Done}
use Rattle.cert_text.specs.declared.refusal.Refusal2.{Refusal2}
use Rattle.cert_text.specs.declared.report.Report.{Report}
use Rattle.cert_text.specs.Texts.{report_text}
use Rattle.cert_text.specs.Whole.{report_of}
use Rattle.cert_text.specs.Within.{IsWithin}
use Rattle.mwt_tool.specs.Refusal.{Refuses}
use Rattle.mwt_tool.specs.declared.refusal.Refusal.TheVariants.{Report as OfReport, TooLong, Usage}
use Rattle.svg_picture.specs.Picture.{picture_text}

-- For an input within the limit: why it is no text of a report, or the picture of that report.
pub data Pictures (input : List ℕ) (status : Status) (text : List ℕ) : Type 0 where
  refused : (why : Refusal2) → report_of input ≡ Err why → Refuses (OfReport why) status text → Pictures input status text
  drawn : (r : Report) → IsWithin r → input ≡ report_text r → status ≡ Done → text ≡ picture_text r → Pictures input status text

-- There are words, of which none is taken; or the input is too long; or it is what the input is answered with.
pub data Draws (words : ℕ) (input : List ℕ) (status : Status) (text : List ℕ) : Type 0 where
  usage : 0 < words → Refuses Usage status text → Draws words input status text
  too_long : words ≡ 0 → most_bytes < length input → Refuses TooLong status text → Draws words input status text
  answered : words ≡ 0 → length input ≤ most_bytes → Pictures input status text → Draws words input status text

-- this status and text answer what the source had left, where it tells
pub record Means (words : ℕ) (had : Option (List ℕ)) (status : Status) (text : List ℕ) : Type 0 where
  pub input : List ℕ
  pub told : IsTold had input
  pub drawn : Draws words input status text

-- that text was written, where the sink tells
pub record Says (words : ℕ) (had : Option (List ℕ)) (status : Status) (before after : Option (List ℕ)) : Type 0 where
  pub text : List ℕ
  pub means : Means words had status text
  pub written : Grows before after text

-- a prefix of such a text was written, and nothing else
pub record SaysPrefix (words : ℕ) (had : Option (List ℕ)) (before after : Option (List ℕ)) : Type 0 where
  pub status : Status
  pub text : List ℕ
  pub means : Means words had status text
  pub written : GrowsByPrefix before after text

-- the source tells what it has left, and it is the text of a report
pub record IsReportText (had : Option (List ℕ)) : Type 0 where
  pub report : Report
  pub within : IsWithin report
  pub told : had ≡ Some (report_text report)

-- one of the rules of a report, by its code
pub record IsReportRule (code : ℕ) : Type 0 where
  pub least : 30 ≤ code
  pub most : code ≤ 35
