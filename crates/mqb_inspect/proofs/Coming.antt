-- What a byte that comes makes of what is watched.
use Rattle.std.proofs.Common.{◌≡◌, ◌≤◌, ◌-◌, Bool, true, false, cond, List, [], ◌∷◌, ◌++◌, length, Option, Result, Ok, Err, nat_lt, refl, sym, ap, subst, ◌∙◌, ℕ}
use Rattle.std.specs.Option.{option_map_or}
use Rattle.std.proofs.lemmas.Bool.{true≢false}
use Rattle.std.proofs.lemmas.List.{take_all}
use Rattle.mqb_capture.specs.Events.{Bad, Event, Heard, Sent, Watch, answer_to, answered, byte_came, event_of, holding, read_as, with_event}
use Rattle.mqb_capture.specs.declared.answers.Way.{Way}
use Rattle.mqb_capture.specs.declared.answers.Way.TheVariants as way
use Rattle.mqb_capture.proofs.Cutting.{room_left}
use Rattle.mqb_fields.specs.declared.faults.HeadFault.{HeadFault}
use Rattle.mqb_heads.specs.declared.base.TheConstants.{MAX_PACKET}
use Rattle.mqb_inspect.specs.Cutting.{Comes, fed_byte}
use Rattle.mqb_inspect.specs.declared.cutting.Came.{Came}
use Rattle.mqb_inspect.specs.declared.cutting.Came.TheVariants as came
use Rattle.mqb_packet.specs.Parts.{PacketParts}
use Rattle.mqb_packet.specs.declared.packet.Packet.{Packet}
use Rattle.mqb_stream.specs.Cutting.{packet_size}
use Rattle.mqb_stream.specs.Framing.{Answer, Broken, Framing, Wants, Whole, by_size, fed, is_whole, next, packet_end, wants_more}

-- The place of a packet does not matter, nor the room of the framer.

abbrev placed : Framing → Framing
placed f = record { limit = MAX_PACKET; room = MAX_PACKET; place = 0; held = f.held }

by_read : (f : Framing) (c : Came) (read : Result ℕ HeadFault) → Comes (by_size f read) c → Comes (by_size (placed f) read) c
by_read f c (Ok size) h = h
by_read f (came.Packet p) (Err why) h = h
by_read f (came.Bad fault) (Err why) h = h
by_read f came.Nothing (Err why) h = h

by_test : (f : Framing) (c : Came) (short : Bool) → f.limit ≡ MAX_PACKET → Comes (cond short (Wants (16 - length f.held)) (by_size f (packet_size f.limit f.held))) c
    → Comes (cond short (Wants (16 - length f.held)) (by_size (placed f) (packet_size MAX_PACKET f.held))) c
by_test f c true limit h = h
by_test f c false limit h = by_read f c (packet_size MAX_PACKET f.held) (subst (λ (n : ℕ). Comes (by_size f (packet_size n f.held)) c) limit h)

same_comes : (f : Framing) (c : Came) → f.limit ≡ MAX_PACKET → Comes (next f) c → Comes (answer_to f.held) c
unfolding next
same_comes f c limit h = by_test f c (nat_lt (length f.held) 16) limit h

-- An answer that wants more, and what comes then.

wants_comes : (a : Answer) → wants_more a ≡ true → Comes a came.Nothing
wants_comes (Whole frame) e = absurd (true≢false (sym e))
wants_comes (Broken why place) e = absurd (true≢false (sym e))
wants_comes (Wants need) e = tt

pub comes_wants : (a : Answer) → Comes a came.Nothing → wants_more a ≡ true
comes_wants (Whole frame) h = absurd h
comes_wants (Broken why place) h = absurd h
comes_wants (Wants need) h = refl

pub comes_whole : (a : Answer) (p : Packet) → Comes a (came.Packet p) → is_whole a ≡ true
comes_whole (Whole frame) p h = refl
comes_whole (Broken why place) p h = absurd h
comes_whole (Wants need) p h = absurd h

-- a framer that wants more takes a byte
pub fed_is : (f : Framing) (b : ℕ) → f.limit ≡ MAX_PACKET → wants_more (next f) ≡ true → fed f (b ∷ []) ≡ fed_byte f b
unfolding fed
fed_is f b limit wants =
    let held : List ℕ = f.held ++ b ∷ [] in
    let room = room_left f.held b (comes_wants (answer_to f.held) (same_comes f came.Nothing limit (wants_comes (next f) wants))) in
    ap (λ (t : List ℕ). record f { held = t }) (take_all (packet_end f.limit held) held (subst (λ (n : ℕ). length held ≤ packet_end n held) (sym limit) room))

-- a framer that holds nothing wants more
pub wants_empty : (f : Framing) → f.held ≡ [] → wants_more (next f) ≡ true
unfolding next
wants_empty f e = subst (λ (t : List ℕ). wants_more (next (record f { held = t })) ≡ true) (sym e) refl

comes_at : (f : Framing) (bytes : List ℕ) (b : ℕ) (c : Came) → f.held ≡ bytes → f.limit ≡ MAX_PACKET → Comes (next (fed_byte f b)) c → Comes (answer_to (bytes ++ b ∷ [])) c
comes_at f bytes b c held limit h = subst (λ (t : List ℕ). Comes (answer_to (t ++ b ∷ [])) c) held (same_comes (fed_byte f b) c limit h)

-- What is answered, by what comes.

same_events : (d : Way) (bytes : List ℕ) (w : Watch) → (holding d bytes w).events ≡ w.events
same_events way.Sent bytes w = refl
same_events way.Heard bytes w = refl

nothing_done : (d : Way) (a : Answer) (w : Watch) → Comes a came.Nothing → answered d a w ≡ w
nothing_done d (Whole frame) w h = absurd h
nothing_done d (Broken why place) w h = absurd h
nothing_done d (Wants need) w h = refl

packet_done : (d : Way) (a : Answer) (w : Watch) (p : Packet) → Comes a (came.Packet p) → answered d a w ≡ with_event (event_of d p) (holding d [] w)
packet_done d (Whole frame) w p s =
    ap (λ (r : Result PacketParts HeadFault). read_as d r (holding d [] w)) s.read
    ∙ ap (λ (o : Option Packet). option_map_or (λ q. with_event (event_of d q) (holding d [] w)) o (holding d [] w)) s.said
packet_done d (Broken why place) w p h = absurd h
packet_done d (Wants need) w p h = absurd h

bad_done : (d : Way) (a : Answer) (w : Watch) (fault : HeadFault) → Comes a (came.Bad fault) → (answered d a w).events ≡ w.events ++ Bad fault ∷ []
bad_done d (Whole frame) w fault e =
    ap (λ (r : Result PacketParts HeadFault). (read_as d r (holding d [] w)).events) e ∙ ap (λ (es : List Event). es ++ Bad fault ∷ []) (same_events d [] w)
bad_done d (Broken why place) w fault e = ap (λ (x : HeadFault). w.events ++ Bad x ∷ []) e
bad_done d (Wants need) w fault h = absurd h

-- A byte that was sent.
module _ (f : Framing) (w : Watch) (b : ℕ) (held : f.held ≡ w.sent) (limit : f.limit ≡ MAX_PACKET) where
  pub nothing_sent : Comes (next (fed_byte f b)) came.Nothing → byte_came way.Sent w b ≡ record w { sent = w.sent ++ b ∷ [] }
  nothing_sent h = nothing_done way.Sent (answer_to (w.sent ++ b ∷ [])) (record w { sent = w.sent ++ b ∷ [] }) (comes_at f w.sent b came.Nothing held limit h)

  pub packet_sent : (p : Packet) → Comes (next (fed_byte f b)) (came.Packet p) → byte_came way.Sent w b ≡ record w { events = w.events ++ Sent p ∷ []; sent = [] }
  packet_sent p h = packet_done way.Sent (answer_to (w.sent ++ b ∷ [])) (record w { sent = w.sent ++ b ∷ [] }) p (comes_at f w.sent b (came.Packet p) held limit h)

  pub bad_sent : (fault : HeadFault) → Comes (next (fed_byte f b)) (came.Bad fault) → (byte_came way.Sent w b).events ≡ w.events ++ Bad fault ∷ []
  bad_sent fault h = bad_done way.Sent (answer_to (w.sent ++ b ∷ [])) (record w { sent = w.sent ++ b ∷ [] }) fault (comes_at f w.sent b (came.Bad fault) held limit h)

-- A byte that was heard.
module _ (f : Framing) (w : Watch) (b : ℕ) (held : f.held ≡ w.heard) (limit : f.limit ≡ MAX_PACKET) where
  pub nothing_heard : Comes (next (fed_byte f b)) came.Nothing → byte_came way.Heard w b ≡ record w { heard = w.heard ++ b ∷ [] }
  nothing_heard h = nothing_done way.Heard (answer_to (w.heard ++ b ∷ [])) (record w { heard = w.heard ++ b ∷ [] }) (comes_at f w.heard b came.Nothing held limit h)

  pub packet_heard : (p : Packet) → Comes (next (fed_byte f b)) (came.Packet p) → byte_came way.Heard w b ≡ record w { events = w.events ++ Heard p ∷ []; heard = [] }
  packet_heard p h = packet_done way.Heard (answer_to (w.heard ++ b ∷ [])) (record w { heard = w.heard ++ b ∷ [] }) p (comes_at f w.heard b (came.Packet p) held limit h)

  pub bad_heard : (fault : HeadFault) → Comes (next (fed_byte f b)) (came.Bad fault) → (byte_came way.Heard w b).events ≡ w.events ++ Bad fault ∷ []
  bad_heard fault h = bad_done way.Heard (answer_to (w.heard ++ b ∷ [])) (record w { heard = w.heard ++ b ∷ [] }) fault (comes_at f w.heard b (came.Bad fault) held limit h)
