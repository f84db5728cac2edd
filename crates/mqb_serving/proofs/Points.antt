-- Whatever bytes were read, the manager is as behind some pumps from where pumping started, and so is what it gave.
use Rattle.std.proofs.Common.{◌≡◌, ◌==◌, Bool, true, false, List, [], ◌∷◌, ◌++◌, Option, None, Some, Result, Ok, Err, ℕ, cond, is_some, refl, sym, ap, subst, inl, inr, ◌∙◌, append_assoc}
use Rattle.std.proofs.lemmas.List.Sums.{fold-append}
use Rattle.std.specs.Option.{option_map_or, option_or}
use Rattle.mqb_fields.specs.declared.faults.HeadFault.{HeadFault}
use Rattle.mqb_packet.specs.Parts.{PacketParts, packet_of}
use Rattle.mqb_packet.specs.Spelled.{packet_in}
use Rattle.mqb_packet.specs.declared.packet.Packet.{Packet}
use Rattle.mqb_stream.specs.Framing.{Answer, Broken, Wants, Whole, advanced, next}
use Rattle.mqb_serving.specs.Conversations.{Conversation, End, StoredManager, answered, byte_read, count_read, heard, heard_as, holding, limited, looked_at, read_on}
use Rattle.mqb_serving.specs.Laws.{Begins, passed}
use Rattle.mqb_serving.specs.declared.faults.PeerFault.TheVariants as fault
use Rattle.mqb_serving.specs.declared.limits.TheConstants.{MAX_PUMPS, MAX_READ}
use Rattle.mqb_model.specs.records.Record.{Record}
use Rattle.mqb_serving.specs.Serving.{Fills, Hears, IsStart, Starting, heard_by, hearing}
use Rattle.mqb_serving.specs.Steps.{HearsHeld, IsBehind, IsPast, IsSameSide}
use Rattle.mqb_serving.proofs.Taking.{begins_behind, begins_then}

pub same_side : (c : Conversation) → IsSameSide c c
same_side c = record { manager = refl; now = refl; given = refl }

pub same_then : (b c d : Conversation) → IsSameSide b c → IsSameSide c d → IsSameSide b d
same_then b c d first second = record { manager = second.manager ∙ first.manager; now = second.now ∙ first.now; given = second.given ∙ first.given }

pub behind_same : (starts : Starting) (d e : Conversation) → IsSameSide d e → IsBehind starts d → IsBehind starts e
behind_same starts d e same b = record {
  from = b.from;
  pumps = b.pumps;
  start = b.start;
  manager = same.manager ∙ b.manager;
  now = same.now ∙ b.now;
  given = same.given ∙ b.given;
}

pub past_same : (starts : Starting) (c d e : Conversation) → IsSameSide d e → IsPast starts c d → IsPast starts c e
past_same starts c d e same (inl s) = inl (same_then c d e s same)
past_same starts c d e same (inr b) = inr (behind_same starts d e same b)

-- Each start is a start of others too, and each hearing with a record a hearing of others.
pub record IsWithin (starts others : Starting) : Type 0 where
  pub start : (from : Conversation) → IsStart starts from → IsStart others from
  pub next : (m : StoredManager) (r : Record) (from : Conversation) → starts m (Some r) from → others m (Some r) from

pub within_itself : (starts : Starting) → IsWithin starts starts
within_itself starts = record { start = λ from h. h; next = λ m r from h. h }

pub within_by : (starts others : Starting) → ((by : StoredManager) (entry : Option Record) (from : Conversation) → starts by entry from → others by entry from) → IsWithin starts others
within_by starts others map = record { start = λ from h. (h.0, h.1, map h.0 h.1 from h.2); next = λ m r from h. map m (Some r) from h }

pub behind_map : (starts others : Starting) (d : Conversation) → IsWithin starts others → IsBehind starts d → IsBehind others d
behind_map starts others d map b = record {
  from = b.from;
  pumps = b.pumps;
  start = map.start b.from b.start;
  manager = b.manager;
  now = b.now;
  given = b.given;
}

pub past_map : (starts others : Starting) (c d : Conversation) → IsWithin starts others → IsPast starts c d → IsPast others c d
past_map starts others c d map (inl s) = inl s
past_map starts others c d map (inr b) = inr (behind_map starts others d map b)

-- What is held is looked at.

limit_same : (c ended : Conversation) (b : Bool) → IsSameSide c ended → IsSameSide c (cond b ended c)
limit_same c ended true same = same
limit_same c ended false same = same_side c

pub limited_same : (c : Conversation) → IsSameSide c (limited c)
limited_same c = limit_same c (record c { end = option_or c.end (Some (Err fault.TooMuch)) }) (count_read c == MAX_READ) (record { manager = refl; now = refl; given = refl })

packet_past : (h : Conversation) (frame : List ℕ) (parts : PacketParts) (p : Option Packet) → next h.framing ≡ Whole frame → packet_of frame ≡ Ok parts → packet_in parts ≡ p
    → let d = record h { framing = advanced h.framing } in IsPast (HearsHeld h) h (option_map_or (heard d) p d)
packet_past h frame parts (Some p) whole read said = inr (record {
  from = hearing (record h { framing = advanced h.framing }) p;
  pumps = MAX_PUMPS;
  start = (h.stored, heard_by h p, record { frame = frame; packet = p; whole = whole; spells = record { parts = parts; read = read; said = said }; manager = refl; comes_to = refl; heard = refl });
  manager = refl;
  now = refl;
  given = refl;
})
packet_past h frame parts None whole read said = inl (record { manager = refl; now = refl; given = refl })

frame_past : (h : Conversation) (frame : List ℕ) (read : Result PacketParts HeadFault) → next h.framing ≡ Whole frame → packet_of frame ≡ read
    → IsPast (HearsHeld h) h (heard_as h.framing.place read (record h { framing = advanced h.framing }))
frame_past h frame (Ok parts) whole is = packet_past h frame parts (packet_in parts) whole is refl
frame_past h frame (Err why) whole is = inl (record { manager = refl; now = refl; given = refl })

answer_past : (h : Conversation) (answer : Answer) → next h.framing ≡ answer → IsPast (HearsHeld h) h (answered answer h)
answer_past h (Whole frame) is = frame_past h frame (packet_of frame) is refl
answer_past h (Broken why place) is = inl (record { manager = refl; now = refl; given = refl })
answer_past h (Wants need) is = inl (same_side h)

pub look_past : (h : Conversation) → IsPast (HearsHeld h) h (looked_at h)
look_past h = past_same (HearsHeld h) h (answered (next h.framing) h) (looked_at h) (limited_same (answered (next h.framing) h)) (answer_past h (next h.framing) refl)

-- A byte is read.

pub held_hears : (c : Conversation) (byte : ℕ) → c.end ≡ None → (by : StoredManager) (entry : Option Record) (from : Conversation)
    → HearsHeld (holding c (byte ∷ [])) by entry from → Hears c (byte ∷ []) by entry from
held_hears c byte end by entry from h = record {
  front = [];
  byte = byte;
  packet = h.packet;
  begins = ([], refl);
  fills = record { end = end; frame = h.frame; whole = h.whole; spells = h.spells };
  manager = h.manager;
  comes_to = h.comes_to;
  heard = h.heard;
}

byte_past : (c : Conversation) (byte : ℕ) (e : Option End) → c.end ≡ e → IsPast (Hears c (byte ∷ [])) c (cond (is_some e) c (looked_at (holding c (byte ∷ []))))
byte_past c byte (Some end) is = inl (same_side c)
byte_past c byte None is =
    let h = holding c (byte ∷ []) in
    past_map (HearsHeld h) (Hears c (byte ∷ [])) c (looked_at h) (within_by (HearsHeld h) (Hears c (byte ∷ [])) (held_hears c byte is)) (past_held (look_past h))
  where
    past_held : IsPast (HearsHeld (holding c (byte ∷ []))) (holding c (byte ∷ [])) (looked_at (holding c (byte ∷ [])))
        → IsPast (HearsHeld (holding c (byte ∷ []))) c (looked_at (holding c (byte ∷ [])))
    past_held (inl s) = inl (record { manager = s.manager; now = s.now; given = s.given })
    past_held (inr b) = inr b

-- More bytes are read.

pub read_then : (c : Conversation) (front more : List ℕ) → read_on c (front ++ more) ≡ read_on (read_on c front) more
read_then c front more = fold-append byte_read c front more

pub hears_more : (c : Conversation) (bytes more : List ℕ) (by : StoredManager) (entry : Option Record) (from : Conversation) → Hears c bytes by entry from → Hears c (bytes ++ more) by entry from
hears_more c bytes more by entry from h = record {
  front = h.front;
  byte = h.byte;
  packet = h.packet;
  begins = begins_then (h.front ++ h.byte ∷ []) bytes (bytes ++ more) h.begins (more, refl);
  fills = h.fills;
  manager = h.manager;
  comes_to = h.comes_to;
  heard = h.heard;
}

pub hears_behind : (c : Conversation) (front more : List ℕ) (by : StoredManager) (entry : Option Record) (from : Conversation) → Hears (read_on c front) more by entry from
    → Hears c (front ++ more) by entry from
hears_behind c front more by entry from h =
    let same = sym (read_then c front h.front) in
    record {
      front = front ++ h.front;
      byte = h.byte;
      packet = h.packet;
      begins = subst (λ (t : List ℕ). Begins t (front ++ more)) (sym (append_assoc front h.front (h.byte ∷ []))) (begins_behind front (h.front ++ h.byte ∷ []) more h.begins);
      fills = subst (λ (d : Conversation). Fills d h.byte h.packet) same h.fills;
      manager = h.manager ∙ ap (λ (d : Conversation). d.stored) same;
      comes_to = ap (λ (d : Conversation). heard_by d h.packet) (sym same) ∙ h.comes_to;
      heard = h.heard ∙ ap (λ (d : Conversation). hearing (passed d (h.byte ∷ [])) h.packet) same;
    }

pub hears_all : (c : Conversation) (bytes more : List ℕ) → IsWithin (Hears c bytes) (Hears c (bytes ++ more))
hears_all c bytes more = within_by (Hears c bytes) (Hears c (bytes ++ more)) (hears_more c bytes more)

pub hears_then : (c : Conversation) (front more : List ℕ) → IsWithin (Hears (read_on c front) more) (Hears c (front ++ more))
hears_then c front more = within_by (Hears (read_on c front) more) (Hears c (front ++ more)) (hears_behind c front more)

pub past_then : (c : Conversation) (front more : List ℕ) (d : Conversation) → IsPast (Hears c front) c (read_on c front) → IsPast (Hears (read_on c front) more) (read_on c front) d
    → IsPast (Hears c (front ++ more)) c d
past_then c front more d first (inl same) =
    past_same (Hears c (front ++ more)) c (read_on c front) d same (past_map (Hears c front) (Hears c (front ++ more)) c (read_on c front) (hears_all c front more) first)
past_then c front more d first (inr b) = inr (behind_map (Hears (read_on c front) more) (Hears c (front ++ more)) d (hears_then c front more) b)

pub read_past : (c : Conversation) (bytes : List ℕ) → IsPast (Hears c bytes) c (read_on c bytes)
read_past c [] = inl (same_side c)
read_past c (byte ∷ bytes) = past_then c (byte ∷ []) bytes (read_on (byte_read c byte) bytes) (byte_past c byte c.end refl) (read_past (byte_read c byte) bytes)
