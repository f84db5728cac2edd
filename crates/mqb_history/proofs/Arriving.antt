-- Lines that say that a message arrived: of a decision, or of what was stored.
use Rattle.std.proofs.Common.{refl, ap, sym, subst, ◌∙◌, arith, inl, inr}
use Rattle.std.specs.List.{AllByRecursion, cons_option}
use Rattle.std.specs.Prelude.{[], ◌==◌, ◌∷◌, ◌≡◌, ◌≤◌, ◌⊎◌, Bool, List, None, Option, Some, cond, false, filter_map, suc, true, zero, ℕ}
use Rattle.mqb_base.specs.Same.{same_guid, same_id, same_name}
use Rattle.mqb_base.specs.declared.ids.Identity.{Identity}
use Rattle.mqb_base.specs.declared.ids.MessageId.{MessageId}
use Rattle.mqb_base.specs.declared.ledger.Line.{Line}
use Rattle.mqb_base.specs.declared.ledger.Line.TheVariants as line
use Rattle.mqb_base.specs.declared.ledger.Stream.{Stream}
use Rattle.mqb_exactly_once.specs.Words.{In, precedes}
use Rattle.mqb_exactly_once.specs.World.{Channel, Position}
use Rattle.mqb_model.specs.records.Applying.{lines_of}
use Rattle.mqb_network.specs.Courses.{Course, Written}
use Rattle.mqb_network.specs.Laws.{AreApart, lines_written}
use Rattle.mqb_network.specs.Network.{manager_at}
use Rattle.mqb_history.specs.Carried.{AreDecidedTruly}
use Rattle.mqb_history.specs.Decided.{IsDecidedInOrder, RiseStrictly, written_of}
use Rattle.mqb_history.specs.Orderly.{IsOrderly}
use Rattle.mqb_history.specs.Told.{decision_told}
use Rattle.mqb_history.proofs.Between.{all_in}
use Rattle.mqb_history.proofs.Courses.{Agrees}
use Rattle.mqb_history.proofs.Lists.{equal_numbers, join_and}
use Rattle.mqb_history.proofs.Names.{same_guid_refl, same_name_refl}
use Rattle.mqb_history.proofs.Noticed.{IsSentBy, IsStoring, StoredBy, heard_in, in_flat, not_stored, sayings, says_truly, stored_packet}
use Rattle.mqb_history.proofs.Numbering.{AreCounted}
use Rattle.mqb_history.proofs.Outside.{filtered_in}
use Rattle.mqb_history.proofs.Puts.{told_in}
use Rattle.mqb_history.proofs.Remaining.{arrivals}
use Rattle.mqb_history.proofs.Saying.{Says}
use Rattle.mqb_history.proofs.Sources.{IsDecidedAt, not_itself, one_decision, put_at}
use Rattle.mqb_history.proofs.Tallies.{arrives, one_if, tally, tally_from, weight_is}
use Rattle.mqb_history.proofs.Telling.{lines_tell_decisions}

-- what tells of one position counts once, where positions rise
tally_once : (f : Line → ℕ) (tells : Line → Option Position) (p : Position) (ls : List Line) → ((l : Line) → f l ≤ 1) → ((l : Line) → In l ls → 1 ≤ f l → tells l ≡ Some p) → RiseStrictly (filter_map tells ls) → tally f ls ≤ 1
tally_once f tells p [] few says rise = omega arith
tally_once f tells p (x ∷ ls) few says rise = at (f x) refl (tells x) refl rise (λ r. tally_once f tells p ls few (λ l i h. says l (inr i) h) r)
  where
    none : (n : ℕ) → tally f ls ≡ n → AllByRecursion (λ q. precedes p q ≡ true) (filter_map tells ls) → tally f ls ≡ 0
    none zero e above = e
    none (suc n) e above = let g = tally_from f ls (omega (arith, e)) in
        absurd (not_itself p (all_in (λ q. precedes p q ≡ true) (filter_map tells ls) p above (told_in tells ls g.0 p g.1 (says g.0 (inr g.1) g.2))))

    behind : (o : Option Position) → RiseStrictly (cons_option o (filter_map tells ls)) → RiseStrictly (filter_map tells ls)
    behind None r = r
    behind (Some q) r = r.1

    at : (n : ℕ) → f x ≡ n → (o : Option Position) → tells x ≡ o → RiseStrictly (cons_option o (filter_map tells ls)) → (RiseStrictly (filter_map tells ls) → tally f ls ≤ 1) → tally f (x ∷ ls) ≤ 1
    at zero e o g r rest = let le = rest (behind o r) in omega (arith, le, e)
    at (suc n) e o g r rest = let nothing = none (tally f ls) refl (subst (λ o. RiseStrictly (cons_option o (filter_map tells ls))) (sym g ∙ says x (inl refl) (omega (arith, e))) r).0 in let le = few x in omega (arith, nothing, le)

pub own_by : (i : ℕ) (ws : List Written) (w : Written) → In w (written_of i ws) → w.by ≡ i
own_by i [] w h = absurd h
own_by i (v ∷ ws) w h = at (v.by == i) refl h (own_by i ws w)
  where
    at : (b : Bool) → (v.by == i) ≡ b → In w (cond b (v ∷ written_of i ws) (written_of i ws)) → (In w (written_of i ws) → w.by ≡ i) → w.by ≡ i
    at true e (inl f) rest = ap (λ (y : Written). y.by) (sym f) ∙ equal_numbers v.by i e
    at true e (inr j) rest = rest j
    at false e j rest = rest j

arrives_once : (x : MessageId) (l : Line) → arrives x l ≤ 1
arrives_once x l = at l
  where
    one : (b : Bool) → one_if b ≤ 1
    one true = omega arith
    one false = omega arith

    at : (l : Line) → arrives x l ≤ 1
    at (line.Put stream number id) = one (same_id x id)
    at (line.Stored id) = one (same_id x id)
    at l = omega arith

module _ (known : List Identity) (apart : AreApart known) (c : Course) (o : IsOrderly known c) (h : Agrees known c) (counted : (i : ℕ) → AreCounted (manager_at c.network i).state (written_of i c.written)) (truly : AreDecidedTruly c) where
  abbrev mine : ℕ → List Line
  mine i = lines_written (written_of i c.written)

  -- a line puts a message that its manager decided
  pub record IsPut (by : ℕ) (id : MessageId) (l : Line) : Type 0 where
    pub stream : Stream
    pub number : ℕ
    pub line : l ≡ line.Put stream number id
    pub decided : IsDecidedAt known c by stream number id

  -- a line of an arrival tells of a decision, or of a packet that was stored
  pub arrived : (id : MessageId) (w : Written) (l : Line) → In w c.written → In l (lines_of w.before w.entry) → 1 ≤ arrives id l → IsPut w.by id l ⊎ StoredBy w.entry id
  arrived id w l met i one = by l i one
    where
      by : (x : Line) → In x (lines_of w.before w.entry) → 1 ≤ arrives id x → IsPut w.by id x ⊎ StoredBy w.entry id
      by (line.Put stream number other) k e = let same = sym (weight_is id other e) in inl (record {
        stream = stream;
        number = number;
        line = ap (λ y. line.Put stream number y) same;
        decided = put_at known apart c o h counted truly w stream number id met (subst (λ y. In (line.Put stream number y) (lines_of w.before w.entry)) same k);
      })
      by (line.Stored other) k e = inr (subst (StoredBy w.entry) (sym (weight_is id other e)) (all_in (Says (sayings w.entry)) (lines_of w.before w.entry) (line.Stored other) (says_truly w.before w.entry) k))
      by x k e = absurd (omega (arith, e))

  -- of the packet that is stored
  pub stored_from : (id : MessageId) (w : Written) → In w c.written → StoredBy w.entry id → (own : Identity) × IsStoring c.sent own.guid id
  stored_from id w i stored = let heard = heard_in known apart c o h w i in (heard.0, stored_packet known c.sent w.by w.entry id heard stored)

  -- What was sent in a transaction, or put where it was sent, is not stored; and it is decided once.
  module _ (rise : IsDecidedInOrder c) (id : MessageId) (sent : IsSentBy known c id) where
    pub put_by : (w : Written) (l : Line) → In w c.written → In l (lines_of w.before w.entry) → 1 ≤ arrives id l → IsPut w.by id l
    put_by w l i k one = at (arrived id w l i k one)
      where
        at : IsPut w.by id l ⊎ StoredBy w.entry id → IsPut w.by id l
        at (inl put) = put
        at (inr stored) = absurd (not_stored known apart c o h id sent w i stored)

    pub put_here : (j : ℕ) (l : Line) → In l (mine j) → 1 ≤ arrives id l → IsPut j id l
    put_here j l i one = subst (λ k. IsPut k id l) (own_by j c.written w.0 w.1) (put_by w.0 l (filtered_in (λ (v : Written). v.by == j) c.written w.0 w.1) w.2 one)
      where
        w : (w : Written) × In w (written_of j c.written) × In l (lines_of w.before w.entry)
        w = in_flat (λ (v : Written). lines_of v.before v.entry) (written_of j c.written) l i

    abbrev channel_of : Stream → Channel
    channel_of stream = record { source = stream.source; destination = stream.destination }

    -- it comes to a manager once at most
    pub comes_once : (j : ℕ) → arrivals id (mine j) ≤ 1
    comes_once j = at (arrivals id (mine j)) refl
      where
        of : (stream : Stream) (number : ℕ) → IsDecidedAt known c j stream number id → arrivals id (mine j) ≤ 1
        of stream number d = tally_once (arrives id) (decision_told (channel_of stream)) (record { sequence = stream.sequence; number = number }) (mine j) (arrives_once id) (λ l i e. says l (put_here j l i e))
            (subst RiseStrictly (sym (lines_tell_decisions (channel_of stream) (written_of j c.written))) (rise j (channel_of stream)))
          where
            told_as : decision_told (channel_of stream) (line.Put stream number id) ≡ Some (record { sequence = stream.sequence; number = number })
            told_as = ap (λ b. cond b (Some (record { sequence = stream.sequence; number = number })) None)
                (join_and (same_guid stream.source stream.source) (same_name stream.destination stream.destination) (same_guid_refl stream.source) (same_name_refl stream.destination))

            says : (l : Line) → IsPut j id l → decision_told (channel_of stream) l ≡ Some (record { sequence = stream.sequence; number = number })
            says l g = let same = one_decision known apart c o h counted j j g.stream stream g.number number id g.decided d in
                ap (decision_told (channel_of stream)) g.line ∙ ap (λ s. decision_told (channel_of stream) (line.Put s g.number id)) same.1 ∙ ap (λ n. decision_told (channel_of stream) (line.Put stream n id)) same.2 ∙ told_as

        at : (n : ℕ) → arrivals id (mine j) ≡ n → arrivals id (mine j) ≤ 1
        at zero e = omega (arith, e)
        at (suc n) e = let l = tally_from (arrives id) (mine j) (omega (arith, e)) in let g = put_here j l.0 l.1 l.2 in of g.stream g.number g.decided

    -- and to no other one
    pub comes_to_one : (j k : ℕ) → 1 ≤ arrivals id (mine j) → 1 ≤ arrivals id (mine k) → j ≡ k
    comes_to_one j k a b = let l = tally_from (arrives id) (mine j) a in let m = tally_from (arrives id) (mine k) b in let f = put_here j l.0 l.1 l.2 in let g = put_here k m.0 m.1 m.2 in
        (one_decision known apart c o h counted j k f.stream g.stream f.number g.number id f.decided g.decided).0
