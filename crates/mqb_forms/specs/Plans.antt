-- Queues to be made, and ways to send.
use Rattle.std.specs.Prelude.{ℕ, Bool, List, [], ◌∷◌, codes, Option, Some, None, Result, Ok, Err}
use Rattle.mqb_base.specs.declared.ids.Guid.{Guid}
use Rattle.mqb_base.specs.declared.queues.QueuePlan.{QueuePlan}
use Rattle.mqb_fields.specs.Reading.{◌>>=◌}
use Rattle.mqb_forms.specs.declared.faults.LineKind.{LineKind}
use Rattle.mqb_forms.specs.declared.faults.LineKind.TheVariants.{Value}
use Rattle.mqb_forms.specs.Values.{quota_of, priority_of, choice_of, name_of, guid_of}

-- the GUID under which a queue is registered, where there is one
unfoldable pub public_of : List (List ℕ) → Result (Option Guid) LineKind
public_of [] = Ok None
public_of (word ∷ []) = do
  guid ← guid_of word
  Ok (Some guid)
public_of _ = Err Value

unfoldable pub plan_of : List ℕ → List ℕ → List ℕ → List ℕ → List (List ℕ)
    → Result QueuePlan LineKind
plan_of name kind quota journal guid = do
  called ← name_of name
  public ← public_of guid
  transactional ← choice_of (codes "tx") (codes "plain") kind
  most ← quota_of quota
  keeps ← choice_of (codes "journal") (codes "none") journal
  Ok (record {
    name = called;
    public = public;
    transactional = transactional;
    quota = most;
    journal = keeps;
  })

-- whether a message is recoverable, and its priority
unfoldable pub how_of : List ℕ → List ℕ → Result (Bool × ℕ) LineKind
how_of kind priority = do
  recoverable ← choice_of (codes "recoverable") (codes "express") kind
  first ← priority_of priority
  Ok (recoverable, first)
