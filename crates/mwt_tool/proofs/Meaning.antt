-- From what was read to what is meant: one lemma a row.
use Rattle.std.proofs.Common.{subst, ◌≡◌, ◌⊎◌, ℕ, ◌<◌, ◌≤◌, List, [], ◌++◌, length, refl, sym, inl, inr, arith, codes, length-append}
use Rattle.std.specs.Prelude.{None, Some}
use Rattle.std.specs.declared.option.Option.{Option}
use Rattle.mwt_base.specs.Limits.{most_bytes}
use Rattle.mwt_base.specs.Line.{line}
use Rattle.mwt_base.specs.Told.{IsTold, ReadToEnd, TookMore}
use Rattle.mwt_base.specs.declared.status.Status.{Status}
use Rattle.mwt_base.specs.declared.status.Status.TheVariants.{Done}
use Rattle.dual_checker.specs.Elimination.{IsWithinLimits}
use Rattle.tsplib_points.specs.declared.file.File.{File}
use Rattle.mwt_tool.specs.declared.refusal.Refusal.TheVariants.{Usage, TooLong}
use Rattle.mwt_tool.specs.declared.solver.Settings.{Settings}
use Rattle.mwt_tool.specs.declared.words.Mode.{Mode}
use Rattle.mwt_tool.specs.declared.words.Mode.TheVariants.{Check, Explain, Make, Solve, Trial}
use Rattle.mwt_tool.specs.Checks.{IsValidText}
use Rattle.mwt_tool.specs.Intends.{Intends, ReadsInput, usage, too_long, answered}
use Rattle.mwt_tool.specs.Modes.{Accepts, Answers, Reads}
use Rattle.mwt_tool.specs.Refusal.{Refuses}
use Rattle.mwt_tool.specs.Said.{Means, IsAcceptedInput}
use Rattle.mwt_tool.specs.Words.{AskFor}
use Rattle.mwt_tool.specs.Makes.{made_text}
use Rattle.mwt_tool.specs.declared.solving.Form.{Form}
use Rattle.mwt_tool.specs.declared.solving.Form.TheVariants.{Whole, Summary, Kills}
use Rattle.mwt_tool.specs.Solves.{IsSolvable, AnswersFile, AnswersInput, refused, accepted, dense_edges, dense_triangles, tells}
use Rattle.mwt_tool.proofs.Checked.{Checks-valid, valid_short}

pub asked-reads : (words : List (List ℕ)) (mode : Mode) → AskFor mode words → Reads mode → ReadsInput words
asked-reads words mode asked reads = record { mode = mode; asked = asked; reads = reads }

-- words ask for one mode
one_mode : (words : List (List ℕ)) (m n : Mode) → AskFor m words → AskFor n words → m ≡ n
one_mode words m n a b = let x = a.means in let y = b.means in cc (x, y)

reads_or_not : (mode : Mode) → Reads mode ⊎ (¬ Reads mode)
reads_or_not (Solve settings) = inl tt
reads_or_not Check = inl tt
reads_or_not (Make making) = inr (λ reads. reads)
reads_or_not (Trial settings making) = inr (λ reads. reads)
reads_or_not (Explain settings) = inl tt

-- where a mode does not read, the input does not matter
Answers-unread : (mode : Mode) (a b : List ℕ) (status : Status) (text : List ℕ) → ¬ Reads mode → Answers mode a status text → Answers mode b status text
Answers-unread (Solve settings) a b status text never answers = absurd (never tt)
Answers-unread Check a b status text never answers = absurd (never tt)
Answers-unread (Make making) a b status text never answers = answers
Answers-unread (Trial settings making) a b status text never answers = answers
Answers-unread (Explain settings) a b status text never answers = absurd (never tt)

Accepts-unread : (mode : Mode) (a b : List ℕ) → ¬ Reads mode → Accepts mode a → Accepts mode b
Accepts-unread (Solve settings) a b never accepts = absurd (never tt)
Accepts-unread Check a b never accepts = absurd (never tt)
Accepts-unread (Make making) a b never accepts = accepts
Accepts-unread (Trial settings making) a b never accepts = accepts
Accepts-unread (Explain settings) a b never accepts = absurd (never tt)

-- an input that fits what the source tells
abbrev told_input : Option (List ℕ) → List ℕ
told_input None = []
told_input (Some xs) = xs

told_is : (had : Option (List ℕ)) → IsTold had (told_input had)
told_is None = tt
told_is (Some xs) = refl

pub Means-usage : (words : List (List ℕ)) (had : Option (List ℕ)) (status : Status) (text : List ℕ)
    → ((mode : Mode) → ¬ AskFor mode words) → Refuses Usage status text → Means words had status text
Means-usage words had status text not_asked says = record {
  input = told_input had;
  told = told_is had;
  intended = usage not_asked says;
}

pub Means-too_long : (words : List (List ℕ)) (had after : Option (List ℕ)) (mode : Mode) (status : Status) (text : List ℕ)
    → AskFor mode words → Reads mode → TookMore most_bytes had after → Refuses TooLong status text → Means words had status text
Means-too_long words None after mode status text asked reads more says = record {
  input = more.bytes;
  told = tt;
  intended = too_long (asked-reads words mode asked reads) more.more says;
}
Means-too_long words (Some xs) None mode status text asked reads more says = absurd more.taken
Means-too_long words (Some xs) (Some ys) mode status text asked reads more says =
    let e : xs ≡ more.bytes ++ ys = more.taken in
    let far : most_bytes < length more.bytes = more.more in
    record {
      input = more.bytes ++ ys;
      told = e;
      intended = too_long (asked-reads words mode asked reads) (omega (arith, length-append more.bytes ys)) says;
    }

pub Means-answered : (words : List (List ℕ)) (had after : Option (List ℕ)) (bytes : List ℕ) (mode : Mode) (status : Status) (text : List ℕ)
    → AskFor mode words → ReadToEnd had after bytes → length bytes ≤ most_bytes → Answers mode bytes status text → Means words had status text
Means-answered words None after bytes mode status text asked all within answers = record {
  input = bytes;
  told = tt;
  intended = answered mode asked (λ _. within) answers;
}
Means-answered words (Some xs) after bytes mode status text asked all within answers = record {
  input = bytes;
  told = sym all.0;
  intended = answered mode asked (λ _. within) answers;
}

pub Means-unread : (words : List (List ℕ)) (had : Option (List ℕ)) (mode : Mode) (status : Status) (text : List ℕ)
    → AskFor mode words → ¬ Reads mode → Answers mode [] status text → Means words had status text
Means-unread words had mode status text asked never answers = record {
  input = told_input had;
  told = told_is had;
  intended = answered mode asked (λ reads. absurd (never reads)) (Answers-unread mode [] (told_input had) status text never answers);
}

-- an accepted file whose points are within the limits is answered with Done
AnswersFile-done : (form : Form) (settings : Settings) (file : File) (status : Status) (text : List ℕ) → IsWithinLimits file.points.points settings.diamond
    → AnswersFile form file settings status text → status ≡ Done
AnswersFile-done form settings file status text within (dense_edges many says) = absurd (within.edges many)
AnswersFile-done form settings file status text within (dense_triangles many says) = absurd (within.triangles many)
AnswersFile-done form settings file status text within (tells within_is done says) = done

AnswersInput-done : (form : Form) (settings : Settings) (input : List ℕ) (status : Status) (text : List ℕ) → IsSolvable settings input
    → AnswersInput form settings input status text → status ≡ Done
AnswersInput-done form settings input status text fine (refused why is says) = let none = fine.accepted in cc (none, is)
AnswersInput-done form settings input status text fine (accepted file of reports) = AnswersFile-done form settings file status text (fine.points file of) reports

-- an input that a mode accepts is answered with Done
Answers-done : (mode : Mode) (input : List ℕ) (status : Status) (text : List ℕ) → Accepts mode input → Answers mode input status text → status ≡ Done
Answers-done (Solve settings) input status text fine answers = AnswersInput-done Whole settings input status text fine.1 answers
Answers-done Check input status text fine answers = (Checks-valid input status text fine answers).0
Answers-done (Make making) input status text fine answers = answers.0
Answers-done (Trial settings making) input status text fine answers = AnswersInput-done Summary settings (made_text making.seed making.points) status text fine answers
Answers-done (Explain settings) input status text fine answers = AnswersInput-done Kills settings input status text fine.1 answers

-- an input that a mode reads and accepts is within the limit
Accepts-short : (mode : Mode) (input : List ℕ) → Reads mode → Accepts mode input → length input ≤ most_bytes
Accepts-short (Solve settings) input reads fine = fine.0
Accepts-short Check input reads fine = valid_short input fine
Accepts-short (Make making) input reads fine = absurd reads
Accepts-short (Trial settings making) input reads fine = absurd reads
Accepts-short (Explain settings) input reads fine = fine.0

Intends-done : (words : List (List ℕ)) (input : List ℕ) (mode : Mode) (status : Status) (text : List ℕ) → AskFor mode words
    → Accepts mode input → Intends words input status text → status ≡ Done
Intends-done words input mode status text asked fine (usage away says) = absurd (away mode asked)
Intends-done words input mode status text asked fine (too_long same far says) =
    let short = Accepts-short mode input (subst Reads (one_mode words same.mode mode same.asked asked) same.reads) fine in
    absurd (omega (arith, short, far))
Intends-done words input mode status text asked fine (answered other asked' short answers) =
    Answers-done other input status text (subst (λ (m : Mode). Accepts m input) (one_mode words mode other asked asked') fine) answers

pub Means-done : (words : List (List ℕ)) (had : Option (List ℕ)) (status : Status) (text : List ℕ) → IsAcceptedInput words had → Means words had status text → status ≡ Done
Means-done words had status text has means = of (reads_or_not has.mode) had has.told means.told
  where
    of : Reads has.mode ⊎ (¬ Reads has.mode) → (had : Option (List ℕ)) → (Reads has.mode → had ≡ Some has.input) → IsTold had means.input → status ≡ Done
    of (inl reads) None told is = absurd (cc (told reads))
    of (inl reads) (Some xs) told is =
        let same : has.input ≡ means.input = let e : Some xs ≡ Some has.input = told reads in cc (e, is) in
        let P : List ℕ → Type 0 = λ s. Intends words s status text in
        Intends-done words has.input has.mode status text has.asked has.accepted (subst P (sym same) means.intended)
    of (inr never) had told is =
        Intends-done words means.input has.mode status text has.asked (Accepts-unread has.mode has.input means.input never has.accepted) means.intended

-- with words that ask for `check`, the text of a good report is answered with Done and `valid`
pub Intends-valid : (words : List (List ℕ)) (input : List ℕ) (status : Status) (text : List ℕ) → AskFor Check words → IsValidText input
    → Intends words input status text → (status ≡ Done) × (text ≡ line (codes "valid"))
Intends-valid words input status text asked fine (usage away says) = absurd (away Check asked)
Intends-valid words input status text asked fine (too_long reads far says) = let short = valid_short input fine in absurd (omega (arith, short, far))
Intends-valid words input status text asked fine (answered mode asked' short answers) =
    Checks-valid input status text fine (subst (λ (m : Mode). Answers m input status text) (one_mode words mode Check asked' asked) answers)
