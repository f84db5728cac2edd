-- Messages that were put leave their queues: a stream world goes on by each fate that lines tell.
use Rattle.std.proofs.Common.{refl, ap, sym, subst, ◌∙◌, inl, inr}
use Rattle.std.specs.List.{flat_map}
use Rattle.std.specs.Prelude.{[], ◌&&◌, ◌++◌, ◌==◌, ◌∷◌, ◌≡◌, ◌⊎◌, Bool, List, None, Option, Some, cond, false, filter_map, map, true, ℕ}
use Rattle.mqb_base.specs.Same.{same_guid, same_id}
use Rattle.mqb_base.specs.declared.ids.MessageId.{MessageId}
use Rattle.mqb_base.specs.declared.ledger.Line.{Line}
use Rattle.mqb_base.specs.declared.ledger.Line.TheVariants as line
use Rattle.mqb_exactly_once.specs.Outcomes.{Departure, Follows, MessageFate, Outcome, Put, Queue_purged, Receive_timeout, Received, Refused, Was_put, Was_refused}
use Rattle.mqb_exactly_once.specs.Steps.{Fate, Tell}
use Rattle.mqb_exactly_once.specs.Words.{In}
use Rattle.mqb_exactly_once.specs.World.{Channel, Decision, FinalAck, KnownFate, Position, StreamWorld}
use Rattle.mqb_history.specs.Fates.{CameTo, ShowsFates, departure_line}
use Rattle.mqb_history.proofs.Believing.{same_id_is}
use Rattle.mqb_history.proofs.Between.{in_either}
use Rattle.mqb_history.proofs.Committing.{in_append}
use Rattle.mqb_history.proofs.Finishing.{refusals_known}
use Rattle.mqb_history.proofs.Lists.{join_and, none_some, same_number, some_is, split_and}
use Rattle.mqb_history.proofs.Names.{same_guid_refl}
use Rattle.mqb_history.proofs.Noticed.{flat_in, in_flat}
use Rattle.mqb_history.proofs.Reaching.{Reached, chosen_from, chosen_in, in_right, kept_invariant, more}

-- What lines tell of decisions.

abbrev is_put : Outcome → Bool
is_put Put = true
is_put (Refused reason) = false

abbrev departed : Departure → MessageId → Decision → Option KnownFate
departed departure id d = cond (same_id d.message.id id && is_put d.outcome) (Some (record { position = d.position; fate = Was_put departure })) None

-- the fate that a line tells of a decision
abbrev left_by : Line → Decision → Option KnownFate
left_by (line.Took id) d = departed Received id d
left_by (line.Purged id) d = departed Queue_purged id d
left_by (line.Swept id) d = departed Receive_timeout id d
left_by _ d = None

-- those that lines tell
abbrev pub fates_left : List Line → List Decision → List KnownFate
fates_left ls ds = flat_map (λ l. filter_map (left_by l) ds) ls

-- a line tells it of a message that was put
pub record IsLeft (d : Decision) (l : Line) (f : KnownFate) : Type 0 where
  pub departure : Departure
  pub is : l ≡ departure_line departure d.message.id
  pub position : d.position ≡ f.position
  pub put : d.outcome ≡ Put
  pub fate : f.fate ≡ Was_put departure

put_of : (o : Outcome) → is_put o ≡ true → o ≡ Put
put_of Put e = refl
put_of (Refused reason) e = absurd (let none : ⊥ = cc in none)

departed_as : (departure : Departure) (id : MessageId) (d : Decision) (l : Line) (f : KnownFate) → l ≡ departure_line departure id → departed departure id d ≡ Some f → IsLeft d l f
departed_as departure id d l f is e = at (same_id d.message.id id && is_put d.outcome) refl e
  where
    at : (b : Bool) → (same_id d.message.id id && is_put d.outcome) ≡ b → cond b (Some (record { position = d.position; fate = Was_put departure })) None ≡ Some f → IsLeft d l f
    at true g same = let both = split_and (same_id d.message.id id) (is_put d.outcome) g in let fate = some_is (record { position = d.position; fate = Was_put departure }) f same in record {
      departure = departure;
      is = is ∙ ap (departure_line departure) (sym (same_id_is d.message.id id both.0));
      position = ap (λ (x : KnownFate). x.position) fate;
      put = put_of d.outcome both.1;
      fate = ap (λ (x : KnownFate). x.fate) (sym fate);
    }
    at false g same = absurd (none_some same)

left_as : (l : Line) (d : Decision) (f : KnownFate) → left_by l d ≡ Some f → IsLeft d l f
left_as (line.Took id) d f e = departed_as Received id d (line.Took id) f refl e
left_as (line.Purged id) d f e = departed_as Queue_purged id d (line.Purged id) f refl e
left_as (line.Swept id) d f e = departed_as Receive_timeout id d (line.Swept id) f refl e
left_as l d f e = absurd (none_some e)

left_from : (ls : List Line) (ds : List Decision) (f : KnownFate) → In f (fates_left ls ds) → (l : Line) × In l ls × (d : Decision) × In d ds × IsLeft d l f
left_from ls ds f i = let x = in_flat (λ l. filter_map (left_by l) ds) ls f i in let y = chosen_from (left_by x.0) ds f x.2 in (x.0, x.1, y.0, y.1, left_as x.0 y.0 f y.2)

-- what was put and left is told
departs_by : (departure : Departure) (d : Decision) → d.outcome ≡ Put → left_by (departure_line departure d.message.id) d ≡ Some (record { position = d.position; fate = Was_put departure })
departs_by departure d put = by departure
  where
    test : (same_id d.message.id d.message.id && is_put d.outcome) ≡ true
    test = join_and (same_id d.message.id d.message.id) (is_put d.outcome)
        (join_and (same_guid d.message.id.qm d.message.id.qm) (d.message.id.number == d.message.id.number) (same_guid_refl d.message.id.qm) (same_number d.message.id.number)) (ap is_put put)

    told : (x : Departure) → departed x d.message.id d ≡ Some (record { position = d.position; fate = Was_put x })
    told x = ap (λ b. cond b (Some (record { position = d.position; fate = Was_put x })) None) test

    by : (x : Departure) → left_by (departure_line x d.message.id) d ≡ Some (record { position = d.position; fate = Was_put x })
    by Received = told Received
    by x = told x

pub left_in : (ls : List Line) (ds : List Decision) (d : Decision) (departure : Departure) → In d ds → d.outcome ≡ Put → In (departure_line departure d.message.id) ls
    → In (record { position = d.position; fate = Was_put departure }) (fates_left ls ds)
left_in ls ds d departure i put told = flat_in (λ l. filter_map (left_by l) ds) ls (departure_line departure d.message.id) (record { position = d.position; fate = Was_put departure }) told
    (chosen_in (left_by (departure_line departure d.message.id)) ds d (record { position = d.position; fate = Was_put departure }) i (departs_by departure d put))

-- The fates of messages that were put are told by lines.

pub record IsPutTold (ledger : List Line) (decided : List Decision) (p : Position) (departure : Departure) : Type 0 where
  pub decision : Decision
  pub there : In decision decided
  pub position : decision.position ≡ p
  pub put : decision.outcome ≡ Put
  pub told : In (departure_line departure decision.message.id) ledger

abbrev pub ArePutsTold : List Line → List Decision → List KnownFate → Type 0
ArePutsTold ledger decided fates = (p : Position) (departure : Departure) → In (record { position = p; fate = Was_put departure }) fates → IsPutTold ledger decided p departure

pub puts_more : (ls more_lines : List Line) (ds more_decided : List Decision) (fs : List KnownFate) → ((l : Line) → In l ls → In l more_lines) → ((d : Decision) → In d ds → In d more_decided)
    → ArePutsTold ls ds fs → ArePutsTold more_lines more_decided fs
puts_more ls more_lines ds more_decided fs lines decisions h p departure i = let x = h p departure i in
    record { decision = x.decision; there = decisions x.decision x.there; position = x.position; put = x.put; told = lines (departure_line departure x.decision.message.id) x.told }

departure_is : (a b : Departure) → Was_put a ≡ Was_put b → a ≡ b
departure_is a b e = cc

-- Stream worlds.

-- a world in which all fates are known that lines tell
abbrev pub settled : StreamWorld → List Line → StreamWorld
settled w ls = record w { fates = fates_left ls w.decided ++ w.fates }

left_reached : (c : Channel) (w : StreamWorld) → Reached c w → (fs : List KnownFate) → ((f : KnownFate) → In f fs → (l : Line) × (d : Decision) × In d w.decided × IsLeft d l f)
    → Reached c (record w { fates = fs ++ w.fates })
left_reached c w r [] may = r
left_reached c w r (f ∷ fs) may = subst (λ x. Reached c (record w { fates = record { position = f.position; fate = x } ∷ (fs ++ w.fates) })) (sym x.3.fate)
    (more c (record w { fates = fs ++ w.fates }) (Fate f.position x.3.departure) (left_reached c w r fs (λ g i. may g (inr i))) (x.1, x.2, x.3.position, x.3.put))
  where
    x : (l : Line) × (d : Decision) × In d w.decided × IsLeft d l f
    x = may f (inl refl)

pub settled_reached : (c : Channel) (w : StreamWorld) (ls : List Line) → Reached c w → Reached c (settled w ls)
settled_reached c w ls r = left_reached c w r (fates_left ls w.decided) (λ f i. let x = left_from ls w.decided f i in (x.0, x.2, x.3, x.4))

pub puts_settled : (w : StreamWorld) (ls : List Line) → ArePutsTold ls w.decided w.fates → ArePutsTold ls w.decided (settled w ls).fates
puts_settled w ls h p departure i = at (in_either (fates_left ls w.decided) w.fates (record { position = p; fate = Was_put departure }) i)
  where
    at : In (record { position = p; fate = Was_put departure }) (fates_left ls w.decided) ⊎ In (record { position = p; fate = Was_put departure }) w.fates → IsPutTold ls w.decided p departure
    at (inl j) = let x = left_from ls w.decided (record { position = p; fate = Was_put departure }) j in record {
      decision = x.2;
      there = x.3;
      position = x.4.position;
      put = x.4.put;
      told = subst (λ y. In (departure_line y x.2.message.id) ls) (departure_is x.4.departure departure (sym x.4.fate)) (subst (λ l. In l ls) x.4.is x.1);
    }
    at (inr j) = h p departure j

-- So the fates that are known are those that are told.
pub shows_fates : (c : Channel) (w : StreamWorld) (ls : List Line) → Reached c w → ArePutsTold ls w.decided w.fates → ShowsFates ls w.decided (settled w ls).fates
shows_fates c w ls r h = record { told = λ f i. told f f.fate refl i; known = known }
  where
    told : (f : KnownFate) (fate : MessageFate) → f.fate ≡ fate → In f (settled w ls).fates → (d : Decision) × In d w.decided × (d.position ≡ f.position) × CameTo ls d f.fate
    told f (Was_put departure) e i = let x = puts_settled w ls h f.position departure (subst (λ y. In (record { position = f.position; fate = y }) (settled w ls).fates) e i) in
        (x.decision, x.there, x.position, subst (CameTo ls x.decision) (sym e) (x.put, x.told))
    told f (Was_refused reason) e i = let x = (kept_invariant c (settled w ls) (settled_reached c w ls r)).fates f i in
        (x.0, x.1, x.2, subst (CameTo ls x.0) (sym e) (refused x.0.outcome (subst (λ y. Follows x.0.outcome y) e x.3)))
      where
        refused : (o : Outcome) → Follows o (Was_refused reason) → o ≡ Refused reason
        refused Put g = absurd g
        refused (Refused other) g = ap Refused (sym g)

    known : (d : Decision) (fate : MessageFate) → In d w.decided → CameTo ls d fate → In (record { position = d.position; fate = fate }) (settled w ls).fates
    known d (Was_put departure) i came = in_append (fates_left ls w.decided) w.fates (record { position = d.position; fate = Was_put departure }) (left_in ls w.decided d departure i came.0 came.1)
    known d (Was_refused reason) i came = in_right (fates_left ls w.decided) w.fates (record { position = d.position; fate = Was_refused reason }) (refusals_known c w r d reason i came)

-- Fates are told.

abbrev pub told_now : ℕ → KnownFate → FinalAck
told_now connection f = record { position = f.position; fate = f.fate; connection = connection }

-- a world in which these are told in the present connection
abbrev pub with_finals : StreamWorld → List KnownFate → StreamWorld
with_finals w fs = record w { final_acks = map (told_now w.connection) fs ++ w.final_acks }

pub finals_reached : (c : Channel) (w : StreamWorld) → Reached c w → w.connected ≡ true → (fs : List KnownFate) → ((f : KnownFate) → In f fs → In f w.fates) → Reached c (with_finals w fs)
finals_reached c w r connected [] sub = r
finals_reached c w r connected (f ∷ fs) sub = more c (with_finals w fs) (Tell f) (finals_reached c w r connected fs (λ g i. sub g (inr i))) (connected, sub f (inl refl))

pub final_told : (w : StreamWorld) (fs : List KnownFate) (f : KnownFate) → In f fs → In (told_now w.connection f) (with_finals w fs).final_acks
final_told w fs f i = in_append (map (told_now w.connection) fs) w.final_acks (told_now w.connection f) (mapped fs i)
  where
    mapped : (gs : List KnownFate) → In f gs → In (told_now w.connection f) (map (told_now w.connection) gs)
    mapped [] j = absurd j
    mapped (g ∷ gs) (inl e) = inl (ap (told_now w.connection) e)
    mapped (g ∷ gs) (inr j) = inr (mapped gs j)

-- nothing else is told
pub final_only : (w : StreamWorld) (fs : List KnownFate) (a : FinalAck) → In a (with_finals w fs).final_acks → ((f : KnownFate) × In f fs × (told_now w.connection f ≡ a)) ⊎ In a w.final_acks
final_only w fs a i = at (in_either (map (told_now w.connection) fs) w.final_acks a i)
  where
    mapped : (gs : List KnownFate) → In a (map (told_now w.connection) gs) → (f : KnownFate) × In f gs × (told_now w.connection f ≡ a)
    mapped [] j = absurd j
    mapped (g ∷ gs) (inl e) = (g, inl refl, e)
    mapped (g ∷ gs) (inr j) = let x = mapped gs j in (x.0, inr x.1, x.2)

    at : In a (map (told_now w.connection) fs) ⊎ In a w.final_acks → ((f : KnownFate) × In f fs × (told_now w.connection f ≡ a)) ⊎ In a w.final_acks
    at (inl j) = inl (mapped fs j)
    at (inr j) = inr j
