-- What is released was stored before, at each point of each run.
use Rattle.std.proofs.Common.{refl, sym, subst}
use Rattle.std.specs.Prelude.{[], ◌++◌, ◌∷◌, ◌≡◌, IfSome, List, None, Option, Some, fold, map, option_map, slice_get, unwrap_or, ℕ}
use Rattle.mqb_base.specs.declared.ids.Guid.{Guid}
use Rattle.mqb_base.specs.declared.ids.Identity.{Identity}
use Rattle.mqb_model.specs.managers.Manager.{doubt_of}
use Rattle.mqb_model.specs.records.Applying.{apply}
use Rattle.mqb_base.specs.declared.ids.MessageId.{MessageId}
use Rattle.mqb_base.specs.declared.message.Lane.{Lane}
use Rattle.mqb_exactly_once.specs.Words.{In}
use Rattle.mqb_model.specs.records.Record.{Part}
use Rattle.mqb_model.specs.records.Record as entry
use Rattle.mqb_model.specs.rules.Numbers.{own_id}
use Rattle.mqb_model.specs.state.State.{State, empty}
use Rattle.mqb_network.specs.Courses.{Course, Written}
use Rattle.mqb_network.specs.Doubts.{settled}
use Rattle.mqb_network.specs.Laws.{AreApart}
use Rattle.mqb_network.specs.Network.{formatted, nobody, others}
use Rattle.mqb_network.specs.Runs.{after_run, beginning}
use Rattle.mqb_session.specs.State.{no_guid}
use Rattle.mqb_history.specs.Orderly.{IsOrderly}
use Rattle.mqb_history.specs.Stored.{AreReleasedTruly, IsStoredIn, StorageIsAlwaysKept, WaitsIn}
use Rattle.mqb_history.proofs.Between.{all_in}
use Rattle.mqb_history.proofs.Agreeing.{agreeing}
use Rattle.mqb_history.proofs.Courses.{Agrees}
use Rattle.mqb_history.proofs.Keeping.{IsClosed}
use Rattle.mqb_history.proofs.Orderly.{begins_orderly, change_orderly, map_get}
use Rattle.mqb_history.proofs.Released.{lines_kept}
use Rattle.mqb_history.proofs.Runs.{always_kept}
use Rattle.mqb_history.proofs.Sessions.{change_keeps_storage}
use Rattle.mqb_history.proofs.Storing.{AnyMark, KeepsStorage, NoMark, ReleaseStored, ReleasesStored, Rests, release_at}
use Rattle.mqb_history.proofs.Lasting.{applied_waits}
use Rattle.mqb_history.proofs.Unreleased.{Waits}
use Rattle.mqb_history.proofs.StoredByPeer.{stored_by_peer}

abbrev pub IsStoring : List Identity → Course → Type 0
IsStoring known c = IsOrderly known c × KeepsStorage c

pub storing_closed : (known : List Identity) → AreApart known → IsClosed known (IsStoring known)
storing_closed known apart = record {
  orderly = λ c h. h.0;
  keeps = λ c x may h. (change_orderly known c x apart may h.0, change_keeps_storage known c x apart may h.0 h.1);
}

-- The start.

none_waits : (own : Guid) (Bears : Lane → ℕ → MessageId → Type 0) (ps : List Identity) (s : State) → Waits own Bears s → Waits own Bears (fold apply s (map (λ p. entry.Peer p) ps))
none_waits own Bears [] s h = h
none_waits own Bears (p ∷ ps) s h = none_waits own Bears ps (apply s (entry.Peer p)) (applied_waits own Bears s (entry.Peer p) tt h)

begun_waits : (own : Identity) (Bears : Lane → ℕ → MessageId → Type 0) (peers : List Identity) → Waits own.guid Bears (formatted own peers).state
begun_waits own Bears peers = none_waits own.guid Bears peers (empty own) (record { identity = refl; plain = tt })

pub begins_storing : (known : List Identity) → KeepsStorage (beginning known)
begins_storing known = record {
  rests = λ i. subst (λ o. Rests (unwrap_or o nobody)) (sym (map_get (λ own. formatted own (others known own)) known i)) (rests (slice_get known i));
  flows = λ d inside i j ends. absurd inside;
  ends = λ note inside d there same. absurd inside;
  numbered = λ note inside. absurd inside;
  written = tt;
  doubts = λ i. subst (λ o. IfSome (doubt_of (unwrap_or o nobody).condition) (ReleasesStored [] (unwrap_or o nobody).state)) (sym (map_get (λ own. formatted own (others known own)) known i)) (doubts (slice_get known i));
}
  where
    rests : (o : Option Identity) → Rests (unwrap_or (option_map (λ own. formatted own (others known own)) o) nobody)
    rests None = record {
      own = no_guid;
      waits = record { identity = refl; plain = tt };
      unsent = λ up none. record { identity = refl; plain = tt };
      doubt = tt;
    }
    rests (Some own) = record {
      own = own.guid;
      waits = begun_waits own AnyMark (others known own);
      unsent = λ up none. begun_waits own NoMark (others known own);
      doubt = tt;
    }

    doubts : (o : Option Identity) → IfSome (doubt_of (unwrap_or (option_map (λ own. formatted own (others known own)) o) nobody).condition)
        (ReleasesStored [] (unwrap_or (option_map (λ own. formatted own (others known own)) o) nobody).state)
    doubts None = tt
    doubts (Some own) = tt

pub released : (c : Course) → KeepsStorage c → (before behind : List Written) (w : Written) (now : ℕ) (numbers : List ℕ) (part : Part) (number : ℕ)
    → c.written ≡ before ++ w ∷ behind → w.entry ≡ entry.Arrived now numbers part → In number numbers → IsStoredIn before (own_id w.before number) × WaitsIn w.before number
released c k before behind w now numbers part number split e inside = all_in (λ n. IsStoredIn before (own_id w.before n) × WaitsIn w.before n) numbers number
    (subst (ReleasesStored before w.before) e (release_at [] before behind w (subst (ReleaseStored []) split k.written))) inside

pub storage_is_always_kept : StorageIsAlwaysKept
storage_is_always_kept known ms apart run kept = (records, lines_kept c records)
  where
    c : Course
    c = settled kept (after_run known ms)

    agrees : IsOrderly known c × Agrees known c
    agrees = agreeing known apart ms run kept

    records : AreReleasedTruly c
    records before behind w now numbers part number split e inside = let r = released c (always_kept known (IsStoring known) (storing_closed known apart) ms run kept (begins_orderly known, begins_storing known)).1 before behind w now numbers part number split e inside in
        stored_by_peer known apart c agrees.0 agrees.1 before behind w number split r.0 r.1
