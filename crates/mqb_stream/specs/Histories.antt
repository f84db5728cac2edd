-- What comes of a framer that is fed and advanced in any order.
use Rattle.std.specs.Prelude.{◌≡◌, ℕ, ◌-◌, List, [], ◌∷◌, ◌++◌, take, length, fold}
use Rattle.std.specs.Prelude.{Err, if◌then◌else◌}
use Rattle.mqb_stream.specs.Cutting.{CutsInto, packet_size, joined}
use Rattle.mqb_stream.specs.Framing.{Framing, Answer, Whole, Broken, Wants, next, wants_more}
use Rattle.mqb_stream.specs.Framing.{fed, advanced}

-- bytes are offered, or the packet that waits is dropped
pub data Step : Type 0 where
  Feed : (bytes : List ℕ) → Step
  Advance : Step

-- a framer, all bytes that it took, and the packets that were dropped
pub record History : Type 0 where
  pub framing : Framing
  pub taken : List ℕ
  pub frames : List (List ℕ)

abbrev pub start : (limit room : ℕ) → History
start limit room = record {
  framing = record { limit = limit; room = room; place = 0; held = [] };
  taken = [];
  frames = [];
}

-- the part of the bytes that a framer takes
abbrev pub part_of : Framing → List ℕ → List ℕ
part_of f bytes = take (length (fed f bytes).held - length f.held) bytes

abbrev pub after_feed : History → List ℕ → History
after_feed h bytes = if wants_more (next h.framing)
    then record {
      framing = fed h.framing bytes;
      taken = h.taken ++ part_of h.framing bytes;
      frames = h.frames;
    }
    else h

abbrev pub after_advance : History → Answer → History
after_advance h (Whole bytes) =
    record { framing = advanced h.framing; taken = h.taken; frames = h.frames ++ bytes ∷ [] }
after_advance h other = h

abbrev pub after : History → Step → History
after h (Feed bytes) = after_feed h bytes
after h Advance = after_advance h (next h.framing)

abbrev pub history : (limit room : ℕ) → List Step → History
history limit room steps = fold after (start limit room) steps

-- An answer is that of the cutting of all bytes that were taken.
abbrev pub IsAnswerOf : History → Answer → Type 0
IsAnswerOf h (Whole bytes) = CutsInto h.framing.limit h.taken (h.frames ++ bytes ∷ []) []
IsAnswerOf h (Broken fault place) = CutsInto h.framing.limit h.taken h.frames h.framing.held
    × (packet_size h.framing.limit h.framing.held ≡ Err fault)
    × (place ≡ length (joined h.frames))
IsAnswerOf h (Wants need) = CutsInto h.framing.limit h.taken h.frames h.framing.held
