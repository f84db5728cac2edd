-- What is written of a verdict.
use Rattle.std.specs.Prelude.{◌≡◌, ◌++◌, List, Option, codes, ℕ}
use Rattle.std.specs.Fmt.{decimal}
use Rattle.mqb_base.specs.declared.heard.Cause.{Cause}
use Rattle.mqb_base.specs.declared.heard.Cause.TheVariants.{Early, BadAck, Refused}
use Rattle.mqb_base.specs.declared.heard.Cause.TheVariants.{Repeated, Foreign}
use Rattle.mqb_capture.specs.declared.answers.BreakCause.{BreakCause}
use Rattle.mqb_capture.specs.declared.answers.BreakCause.TheVariants as cause
use Rattle.mqb_capture.specs.declared.answers.Verdict.{Verdict}
use Rattle.mqb_capture.specs.declared.answers.Verdict.TheVariants as verdict
use Rattle.mqb_fields.specs.declared.faults.HeadKind.{HeadKind}
use Rattle.mqb_fields.specs.declared.faults.HeadKind.TheVariants as kind
use Rattle.mqb_outside.specs.Told.{Took}

abbrev pub closed_text : Cause → List ℕ
closed_text Early = codes "closed early"
closed_text BadAck = codes "closed badack"
closed_text Refused = codes "closed refused"
closed_text Repeated = codes "closed repeated"
closed_text Foreign = codes "closed foreign"

abbrev pub kind_text : HeadKind → List ℕ
kind_text kind.Short = codes " short"
kind_text kind.Version = codes " version"
kind_text kind.Debug = codes " debug"
kind_text kind.Signature = codes " signature"
kind_text kind.Size = codes " size"
kind_text kind.Kind = codes " kind"
kind_text kind.Secured = codes " secured"
kind_text kind.Name = codes " name"
kind_text kind.Label = codes " label"
kind_text kind.Class = codes " class"
kind_text kind.Sizes = codes " sizes"

-- a cause with its fields
abbrev pub cause_text : BreakCause → List ℕ
cause_text (cause.Bad fault) = (codes "bad " ++ decimal fault.at) ++ kind_text fault.kind
cause_text cause.Origin = codes "origin"
cause_text cause.Phase = codes "phase"
cause_text cause.Window = codes "window"
cause_text cause.Stamp = codes "stamp"
cause_text (cause.Closed why) = closed_text why
cause_text cause.Link = codes "link"
cause_text cause.Cut = codes "cut"

-- the line of a verdict
abbrev pub verdict_text : Verdict → List ℕ
verdict_text (verdict.Lawful sent heard) =
    ((codes "lawful " ++ decimal sent) ++ (codes " " ++ decimal heard)) ++ codes "\n"
verdict_text (verdict.Broken index why) =
    ((codes "broken " ++ decimal index) ++ (codes " " ++ cause_text why)) ++ codes "\n"

-- a sink that had taken before took a front of this text, and has taken after
pub record TookFront (before after : Option (List ℕ)) (text : List ℕ) : Type 0 where
  pub written : List ℕ
  pub left : List ℕ
  pub whole : written ++ left ≡ text
  pub took : Took before after written
