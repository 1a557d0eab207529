-- From what was read to what is drawn: one lemma a row.
use Rattle.std.proofs.Common.{◌≡◌, ℕ, ◌<◌, ◌≤◌, List, [], ◌++◌, length, refl, sym, arith, length-append, subst}
use Rattle.std.specs.Prelude.{None, Some}
use Rattle.std.specs.declared.option.Option.{Option}
use Rattle.mwt_base.specs.Limits.{most_bytes}
use Rattle.mwt_base.specs.Told.{IsTold, ReadToEnd, TookMore}
use Rattle.mwt_base.specs.declared.status.Status.{Status}
use Rattle.mwt_base.specs.declared.status.Status.TheVariants.{Done, Refused}
use Rattle.cert_text.specs.declared.report.Report.{Report}
use Rattle.cert_text.specs.Texts.{report_text}
use Rattle.cert_text.specs.Within.{IsWithin}
use Rattle.cert_text.proofs.ReportSizes.{report_short}
use Rattle.cert_text.proofs.Reports.{whole_found}
use Rattle.mwt_tool.specs.declared.refusal.Refusal.TheVariants.{TooLong, Usage}
use Rattle.mwt_tool.specs.declared.words.Mode.TheVariants.{Check}
use Rattle.mwt_tool.specs.Checks as checks
use Rattle.mwt_tool.specs.Intends.{Intends, too_long as intends_too_long, answered as intends_answered}
use Rattle.mwt_tool.specs.Refusal.{Refuses}
use Rattle.mwt_tool.specs.Words.{AskFor}
use Rattle.svg_picture.specs.Draws.{Draws, IsReportText, Means, Pictures, answered, drawn, refused, too_long, usage}

-- an input that fits what the source tells
abbrev told_input : Option (List ℕ) → List ℕ
told_input None = []
told_input (Some xs) = xs

told_is : (had : Option (List ℕ)) → IsTold had (told_input had)
told_is None = tt
told_is (Some xs) = refl

pub Means-usage : (words : ℕ) (had : Option (List ℕ)) (status : Status) (text : List ℕ) → 0 < words → Refuses Usage status text → Means words had status text
Means-usage words had status text some says = record { input = told_input had; told = told_is had; drawn = usage some says }

pub Means-too_long : (words : ℕ) (had after : Option (List ℕ)) (status : Status) (text : List ℕ)
    → words ≡ 0 → TookMore most_bytes had after → Refuses TooLong status text → Means words had status text
Means-too_long words None after status text none more says = record { input = more.bytes; told = tt; drawn = too_long none more.more says }
Means-too_long words (Some xs) None status text none more says = absurd more.taken
Means-too_long words (Some xs) (Some ys) status text none more says =
    let far : most_bytes < length more.bytes = more.more in
    record { input = more.bytes ++ ys; told = more.taken; drawn = too_long none (omega (arith, length-append more.bytes ys)) says }

pub Means-answered : (words : ℕ) (had after : Option (List ℕ)) (bytes : List ℕ) (status : Status) (text : List ℕ)
    → words ≡ 0 → ReadToEnd had after bytes → length bytes ≤ most_bytes → Pictures bytes status text → Means words had status text
Means-answered words None after bytes status text none all within pictures = record { input = bytes; told = tt; drawn = answered none within pictures }
Means-answered words (Some xs) after bytes status text none all within pictures =
    record { input = bytes; told = sym all.0; drawn = answered none within pictures }

-- the text of a report is answered with Done
module _ (r : Report) (w : IsWithin r) where
  Pictures-done : (status : Status) (text : List ℕ) → Pictures (report_text r) status text → status ≡ Done
  Pictures-done status text (refused why is says) = let found = whole_found r w in absurd (cc (is, found))
  Pictures-done status text (drawn q within is done pictured) = done

  Draws-done : (status : Status) (text : List ℕ) → Draws 0 (report_text r) status text → status ≡ Done
  Draws-done status text (usage some says) = absurd (omega (arith, some))
  Draws-done status text (too_long none far says) = let short = report_short r w in absurd (omega (arith, short, far))
  Draws-done status text (answered none short pictures) = Pictures-done status text pictures

pub Means-done : (words : ℕ) (had : Option (List ℕ)) (status : Status) (text : List ℕ) → words ≡ 0 → IsReportText had → Means words had status text → status ≡ Done
Means-done words had status text none is means =
    Draws-done is.report is.within status text
    (subst (λ (n : ℕ). Draws n (report_text is.report) status text) none
    (subst (λ (xs : List ℕ). Draws words xs status text) (same had is.told means.told) means.drawn))
  where
    same : (had : Option (List ℕ)) → had ≡ Some (report_text is.report) → IsTold had means.input → means.input ≡ report_text is.report
    same None told fits = absurd (cc told)
    same (Some xs) told fits = cc (told, fits)

-- what is refused is refused alike by `check`
Pictures-refused : (words : List (List ℕ)) (input text : List ℕ) → AskFor Check words → length input ≤ most_bytes → Pictures input Refused text → Intends words input Refused text
Pictures-refused words input text asked short (refused why is says) = intends_answered Check asked (λ _. short) (checks.refused why is says)
Pictures-refused words input text asked short (drawn r within is done pictured) = absurd (cc done)

pub refused_alike : (input text : List ℕ) (words : List (List ℕ)) → AskFor Check words → Draws 0 input Refused text → Intends words input Refused text
refused_alike input text words asked (usage some says) = absurd (omega (arith, some))
refused_alike input text words asked (too_long none far says) = intends_too_long (record { mode = Check; asked = asked; reads = tt }) far says
refused_alike input text words asked (answered none short pictures) = Pictures-refused words input text asked short pictures
