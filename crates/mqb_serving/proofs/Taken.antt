-- All packets of a piece, and all pieces.
use Rattle.std.proofs.Common.{◌≡◌, ◌≤◌, ◌<◌, ◌+◌, true, List, [], ◌++◌, length, take, drop, Option, None, Some, Result, Ok, Err, ℕ, refl, sym, ap, subst, inl, inr, ◌∙◌, append_assoc, arith}
use Rattle.std.proofs.lemmas.List.{append-nil, take-append-drop}
use Rattle.std.specs.Prelude.{IfSome, unwrap_or}
use Rattle.mqb_outside.specs.Told.{Gave}
use Rattle.mqb_stream.specs.Framing.{Framing, fed, next, wants_more}
use Rattle.mqb_stream.specs.Histories.{part_of}
use Rattle.mqb_serving.specs.declared.purpose.Purpose.{Purpose}
use Rattle.mqb_serving.specs.Conversations.{Conversation, End, StoredManager, count_read, end_of_bytes, is_through, looked_at, pumped, read_on}
use Rattle.mqb_serving.specs.Laws.{GoesOn}
use Rattle.mqb_serving.specs.declared.faults.ConnFault.{ConnFault}
use Rattle.mqb_serving.specs.declared.faults.ConnFault.TheVariants as fault
use Rattle.mqb_serving.specs.declared.limits.TheConstants.{MAX_PUMPS, MAX_READ}
use Rattle.mqb_serving.proofs.Reading.{ends_last}
use Rattle.mqb_serving.specs.Serving.{Hears}
use Rattle.mqb_serving.specs.Steps.{Converses, EndsFrom, Gives, Goes, HearsHeld, Itself, Listens, Reaches, Stands, StartsAt, Stops, end_of}
use Rattle.mqb_serving.proofs.Piecing.{held_part, part_read}
use Rattle.mqb_serving.proofs.Points.{hears_all, hears_behind, hears_more, hears_then, past_map, read_past, read_then, within_by}
use Rattle.mqb_serving.proofs.Stopping.{gives_from, gives_none, gives_then, stops_from, stops_here, stops_map, stops_then}
use Rattle.mqb_serving.proofs.Taking.{gave_same, gave_then}

-- One reading behind another.
pub goes_then : (c : Conversation) (front more : List ℕ) (x y z : Option (List ℕ)) (asks asks_now : Purpose) (moment moment_now : ℕ) (m n : StoredManager) (f g : Framing) (r : Result (Option End) ConnFault)
    → Reaches c (read_on c front) x y asks moment m f None
    → Goes (Hears (read_on c front) more) (read_on c front) (read_on (read_on c front) more) y z asks_now moment_now n g r
    → Goes (Hears c (front ++ more)) c (read_on c (front ++ more)) x z asks_now moment_now n g r
goes_then c front more x y z asks asks_now moment moment_now m n f g (Ok end) first second =
    subst (λ (t : Conversation). Reaches c t x z asks_now moment_now n g end) (sym (read_then c front more))
    (record {
      gives = gives_then c (read_on c front) (read_on (read_on c front) more) x y z first.gives second.gives;
      manager = second.manager;
      end = second.end;
      stands = second.stands;
    })
goes_then c front more x y z asks asks_now moment moment_now m n f g (Err why) first second =
    stops_then (Hears (read_on c front) more) (Hears c (front ++ more)) c (read_on c front) x y z n why (hears_then c front more) first.gives
    (past_map (Hears c front) (Hears c (front ++ more)) c (read_on c front) (hears_all c front more) (read_past c front)) second

-- The part of a piece that the framer takes.
part_goes : (d : Conversation) (piece : List ℕ) (y z : Option (List ℕ)) (asks : Purpose) (moment : ℕ) (n : StoredManager) (g : Framing) (r : Result (Option End) ConnFault)
    → GoesOn d → 0 < length piece → count_read d + length piece ≤ MAX_READ
    → Goes (HearsHeld (record d { framing = fed d.framing piece })) (record d { framing = fed d.framing piece }) (looked_at (record d { framing = fed d.framing piece })) y z asks moment n g r
    → Goes (Hears d (part_of d.framing piece)) d (read_on d (part_of d.framing piece)) y z asks moment n g r
part_goes d piece y z asks moment n g (Ok end) on some few r =
    subst (λ (t : Conversation). Reaches d t y z asks moment n g end) (sym (part_read d piece on some few))
    (record {
      gives = gives_from d (record d { framing = fed d.framing piece }) (looked_at (record d { framing = fed d.framing piece })) y z refl r.gives;
      manager = r.manager;
      end = r.end;
      stands = r.stands;
    })
part_goes d piece y z asks moment n g (Err why) on some few r =
    let filled = record d { framing = fed d.framing piece } in
    stops_map (HearsHeld filled) (Hears d (part_of d.framing piece)) d y z n why (within_by (HearsHeld filled) (Hears d (part_of d.framing piece)) (held_part d piece on some few))
    (stops_from (HearsHeld filled) d filled y z n why (record { manager = refl; now = refl; given = refl }) r)

-- Of a piece this is left, and the program stands behind the bytes before it.
pub record Takes (c : Conversation) (piece rest : List ℕ) (before after : Option (List ℕ)) (asks : Purpose) (moment : ℕ) (m : StoredManager) (f : Framing) : Type 0 where
  pub front : List ℕ
  pub whole : front ++ rest ≡ piece
  pub reached : Reaches c (read_on c front) before after asks moment m f None

stands_reached : (c : Conversation) (a : Option (List ℕ)) (asks : Purpose) (moment : ℕ) (m : StoredManager) (f : Framing) → Stands c asks moment m f → Reaches c c a a asks moment m f None
stands_reached c a asks moment m f s = record { gives = gives_none c c a a refl refl; manager = s.manager; end = s.end; stands = λ none. s }

module _ (c : Conversation) (piece rest : List ℕ) (x y z : Option (List ℕ)) (asks asks_now : Purpose) (moment moment_now : ℕ) (m n : StoredManager) (f g : Framing) (count : ℕ)
    (t : Takes c piece rest x y asks moment m f) (wants : wants_more (next f) ≡ true) (some : 0 < length rest) (few : f.place + length f.held + length rest ≤ MAX_READ)
    (taken : take count rest ≡ part_of f rest) where
  d : Conversation
  d = read_on c t.front

  left : (t.front ++ take count rest) ++ drop count rest ≡ piece
  left = append_assoc t.front (take count rest) (drop count rest) ∙ ap (λ (s : List ℕ). t.front ++ s) (take-append-drop count rest) ∙ t.whole

  looked : (r : Result (Option End) ConnFault)
      → ((e : Conversation) → Stands e asks moment m (fed f rest) → Goes (HearsHeld e) e (looked_at e) y z asks_now moment_now n g r)
      → Goes (Hears c (t.front ++ take count rest)) c (read_on c (t.front ++ take count rest)) x z asks_now moment_now n g r
  unfolding d
  looked r look =
      let s = t.reached.stands refl in
      let on : GoesOn (read_on c t.front) = record { end = s.end; wants = ap (λ (k : Framing). wants_more (next k)) s.framing ∙ wants } in
      let count_is : count_read (read_on c t.front) ≡ f.place + length f.held = ap (λ (k : Framing). k.place + length k.held) s.framing in
      let e = record (read_on c t.front) { framing = fed (read_on c t.front).framing rest } in
      let stands : Stands e asks moment m (fed f rest) = record { purpose = s.purpose; now = s.now; manager = s.manager; framing = ap (λ (k : Framing). fed k rest) s.framing; end = s.end } in
      let part : part_of (read_on c t.front).framing rest ≡ take count rest = ap (λ (k : Framing). part_of k rest) s.framing ∙ sym taken in
      goes_then c t.front (take count rest) x y z asks asks_now moment moment_now m n f g r t.reached
      (subst (λ (p : List ℕ). Goes (Hears (read_on c t.front) p) (read_on c t.front) (read_on (read_on c t.front) p) y z asks_now moment_now n g r) part
      (part_goes (read_on c t.front) rest y z asks_now moment_now n g r on some (omega (arith, few, count_is)) (look e stands)))

  pub takes_more : ((e : Conversation) → Stands e asks moment m (fed f rest) → Goes (HearsHeld e) e (looked_at e) y z asks_now moment_now n g (Ok None))
      → Takes c piece (drop count rest) x z asks_now moment_now n g
  takes_more look = record { front = t.front ++ take count rest; whole = left; reached = looked (Ok None) look }

  pub takes_end : (end : End) → ((e : Conversation) → Stands e asks moment m (fed f rest) → Goes (HearsHeld e) e (looked_at e) y z asks_now moment_now n g (Ok (Some end)))
      → Reaches c (read_on c piece) x z asks_now moment_now n g (Some end)
  takes_end end look =
      let r = looked (Ok (Some end)) look in
      let front = t.front ++ take count rest in
      let same : read_on c piece ≡ read_on c front = ap (read_on c) (sym left) ∙ read_then c front (drop count rest) ∙ ends_last (read_on c front) end (drop count rest) r.end in
      subst (λ (s : Conversation). Reaches c s x z asks_now moment_now n g (Some end)) (sym same) r

  pub takes_stop : (why : ConnFault) → ((e : Conversation) → Stands e asks moment m (fed f rest) → Goes (HearsHeld e) e (looked_at e) y z asks_now moment_now n g (Err why))
      → Stops (Hears c piece) c x z n why
  takes_stop why look =
      let front = t.front ++ take count rest in
      stops_map (Hears c front) (Hears c piece) c x z n why
      (within_by (Hears c front) (Hears c piece) (λ by entry from h. subst (λ (s : List ℕ). Hears c s by entry from) left (hears_more c front (drop count rest) by entry from h))) (looked (Err why) look)

pub takes_all : (c : Conversation) (piece rest : List ℕ) (x y : Option (List ℕ)) (asks : Purpose) (moment : ℕ) (m : StoredManager) (f : Framing) → rest ≡ [] → Takes c piece rest x y asks moment m f
    → Reaches c (read_on c piece) x y asks moment m f None
takes_all c piece rest x y asks moment m f none t =
    subst (λ (s : List ℕ). Reaches c (read_on c s) x y asks moment m f None)
    (sym (append-nil t.front) ∙ ap (λ (s : List ℕ). t.front ++ s) (sym none) ∙ t.whole) t.reached

-- Pieces.

-- The program read this, and stands behind it.
pub record Reads (c : Conversation) (held held_now before after : Option (List ℕ)) (asks : Purpose) (moment : ℕ) (m : StoredManager) (f : Framing) : Type 0 where
  pub read : List ℕ
  pub gave : Gave held held_now read
  pub reached : Reaches c (read_on c read) before after asks moment m f None

pub reads_none : (c : Conversation) (h a : Option (List ℕ)) (asks : Purpose) (moment : ℕ) (m : StoredManager) (f : Framing) → Stands c asks moment m f → Reads c h h a a asks moment m f
reads_none c h a asks moment m f s = record { read = []; gave = gave_same h h refl; reached = stands_reached c a asks moment m f s }

module _ (c : Conversation) (h i j : Option (List ℕ)) (x y z : Option (List ℕ)) (asks : Purpose) (moment : ℕ) (m n : StoredManager) (f : Framing) (t : Reads c h i x y asks moment m f) where
  -- a piece more
  module _ (asks_now : Purpose) (moment_now : ℕ) (g : Framing) (piece : List ℕ) (gave : Gave i j piece) where
    piece_goes : (r : Result (Option End) ConnFault) → ((e : Conversation) → Stands e asks moment m f → Goes (Hears e piece) e (read_on e piece) y z asks_now moment_now n g r)
        → Goes (Hears c (t.read ++ piece)) c (read_on c (t.read ++ piece)) x z asks_now moment_now n g r
    piece_goes r goes = goes_then c t.read piece x y z asks asks_now moment moment_now m n f g r t.reached (goes (read_on c t.read) (t.reached.stands refl))

    pub reads_more : ((e : Conversation) → Stands e asks moment m f → Goes (Hears e piece) e (read_on e piece) y z asks_now moment_now n g (Ok None))
        → Reads c h j x z asks_now moment_now n g
    reads_more goes = record { read = t.read ++ piece; gave = gave_then h i j t.read piece t.gave gave; reached = piece_goes (Ok None) goes }

    pub reads_end : (end : End) → ((e : Conversation) → Stands e asks moment m f → Goes (Hears e piece) e (read_on e piece) y z asks_now moment_now n g (Ok (Some end)))
        → Listens c h j x z n (Ok end)
    reads_end end goes = let r = piece_goes (Ok (Some end)) goes in record {
      read = t.read ++ piece;
      gave = gave_then h i j t.read piece t.gave gave;
      ends = record {
        gives = r.gives;
        manager = r.manager;
        end = ap (λ (e : Option End). unwrap_or e (end_of_bytes (read_on c (t.read ++ piece)))) r.end;
        all = λ none. absurd (let wrong : ⊥ = cc (none, r.end) in wrong);
      };
    }

    pub reads_stop : (why : ConnFault) → ((e : Conversation) → Stands e asks moment m f → Goes (Hears e piece) e (read_on e piece) y z asks_now moment_now n g (Err why))
        → Listens c h j x z n (Err why)
    reads_stop why goes = record { read = t.read ++ piece; gave = gave_then h i j t.read piece t.gave gave; ends = piece_goes (Err why) goes }

  -- a read that fails
  pub reads_fault : j ≡ i → z ≡ y → n ≡ m → Listens c h j x z n (Err fault.ReadFault)
  reads_fault held taken same = record {
    read = t.read;
    gave = subst (λ (o : Option (List ℕ)). Gave h o t.read) (sym held) t.gave;
    ends = stops_then (Hears (read_on c t.read) []) (Hears c t.read) c (read_on c t.read) x y z n fault.ReadFault
        (within_by (Hears (read_on c t.read) []) (Hears c t.read) (λ by entry from h. subst (λ (s : List ℕ). Hears c s by entry from) (append-nil t.read) (hears_behind c t.read [] by entry from h))) t.reached.gives (read_past c t.read)
        (stops_here (Hears (read_on c t.read) []) (read_on c t.read) y z n fault.ReadFault taken (same ∙ sym t.reached.manager));
  }

  -- the end of what comes
  pub reads_out : (end : End) (nothing : List ℕ) → Gave i j nothing → nothing ≡ [] → IfSome j (λ rest. rest ≡ []) → z ≡ y → n ≡ m → end ≡ end_of (is_through m.manager) f.held → Listens c h j x z n (Ok end)
  reads_out end nothing gave none all taken same is = record {
    read = t.read;
    gave = subst (λ (s : List ℕ). Gave h j s) (ap (λ (s : List ℕ). t.read ++ s) none ∙ append-nil t.read) (gave_then h i j t.read nothing t.gave gave);
    ends = record {
      gives = subst (λ (o : Option (List ℕ)). Gives c (read_on c t.read) x o) (sym taken) t.reached.gives;
      manager = t.reached.manager ∙ sym same;
      end = ap (λ (e : Option End). unwrap_or e (end_of_bytes (read_on c t.read))) t.reached.end
          ∙ ap (λ (k : StoredManager). end_of (is_through k.manager) (read_on c t.read).framing.held) t.reached.manager
          ∙ ap (λ (k : Framing). end_of (is_through m.manager) k.held) ((t.reached.stands refl).framing)
          ∙ sym is;
      all = λ none. all;
    };
  }

-- Pumping comes first.

pub converses_end : (c : Conversation) (h i x y : Option (List ℕ)) (asks : Purpose) (moment : ℕ) (n : StoredManager) (f : Framing) (end : End) → Reaches c (pumped MAX_PUMPS c) x y asks moment n f (Some end)
    → i ≡ h → Converses c h i x y n (Ok end)
converses_end c h i x y asks moment n f end r held = record {
  read = [];
  gave = gave_same h i held;
  ends = record {
    gives = r.gives;
    manager = r.manager;
    end = ap (λ (e : Option End). unwrap_or e (end_of_bytes (pumped MAX_PUMPS c))) r.end;
    all = λ none. absurd (let wrong : ⊥ = cc (none, r.end) in wrong);
  };
}

pub converses_stop : (c : Conversation) (h i x y : Option (List ℕ)) (n : StoredManager) (why : ConnFault) → Stops (Itself c) c x y n why → i ≡ h → Converses c h i x y n (Err why)
converses_stop c h i x y n why s held = record { read = []; gave = gave_same h i held; ends = stops_map (Itself c) (StartsAt c []) c x y n why (within_by (Itself c) (StartsAt c []) (λ by entry from is. inl is)) s }

listens_from : (c : Conversation) (read : List ℕ) (j x y z : Option (List ℕ)) (n : StoredManager) (r : Result End ConnFault) → Gives c (pumped MAX_PUMPS c) x y
    → EndsFrom (Hears (pumped MAX_PUMPS c) read) (pumped MAX_PUMPS c) (read_on (pumped MAX_PUMPS c) read) y z j n r
    → EndsFrom (StartsAt c read) c (read_on (pumped MAX_PUMPS c) read) x z j n r
listens_from c read j x y z n (Ok end) g ends = record {
  gives = gives_then c (pumped MAX_PUMPS c) (read_on (pumped MAX_PUMPS c) read) x y z g ends.gives;
  manager = ends.manager;
  end = ends.end;
  all = ends.all;
}
listens_from c read j x y z n (Err why) g ends =
    stops_then (Hears (pumped MAX_PUMPS c) read) (StartsAt c read) c (pumped MAX_PUMPS c) x y z n why (within_by (Hears (pumped MAX_PUMPS c) read) (StartsAt c read) (λ by entry from h. inr h)) g
    (inr (record { from = c; pumps = MAX_PUMPS; start = (c.stored, None, inl (refl, refl)); manager = refl; now = refl; given = refl })) ends

pub converses_on : (c : Conversation) (h i j x y z : Option (List ℕ)) (asks : Purpose) (moment : ℕ) (m n : StoredManager) (f : Framing) (r : Result End ConnFault) → Reaches c (pumped MAX_PUMPS c) x y asks moment m f None
    → i ≡ h → ((e : Conversation) → Stands e asks moment m f → Listens e i j y z n r) → Converses c h j x z n r
converses_on c h i j x y z asks moment m n f r first held listens =
    let l = listens (pumped MAX_PUMPS c) (first.stands refl) in
    record {
      read = l.read;
      gave = subst (λ (o : Option (List ℕ)). Gave o j l.read) held l.gave;
      ends = listens_from c l.read j x y z n r first.gives l.ends;
    }
