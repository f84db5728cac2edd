-- The text of what is told.
use Rattle.hex.specs.Hex.{encode_lower}
use Rattle.std.specs.List.{flat_map}
use Rattle.std.specs.Prelude.{[], ◌++◌, ◌∷◌, List, None, codes, ℕ}
use Rattle.mqb_answers.specs.Told.{messages_of}
use Rattle.mqb_answers.specs.declared.told.Said.{Said}
use Rattle.mqb_answers.specs.declared.told.Said.TheVariants as said
use Rattle.mqb_answers.specs.declared.told.Told.{Told}
use Rattle.mqb_base.specs.declared.ids.Identity.{Identity}
use Rattle.mqb_base.specs.declared.message.Message.{Message}
use Rattle.mqb_model.specs.state.State.{State}
use Rattle.mqb_transcript.specs.Texts.{printed, spaced}

-- the managers that are printed as their hosts: a manager and its peers
abbrev pub hosts_of : State → List Identity
hosts_of s = s.identity ∷ s.peers

-- the line of a call, which has no number
unfoldable pub said_line : List Identity → Said → List ℕ
said_line hosts (said.Reply r) = printed hosts None r
said_line hosts said.PeerThere = codes "peerthere\n"
said_line hosts said.TooManyPeers = codes "toomanypeers\n"

-- a body in hexadecimal behind a space, where it has a byte
unfoldable pub body_text : List ℕ → List ℕ
body_text [] = []
body_text (b ∷ bytes) = spaced (encode_lower (b ∷ bytes))

-- the line of a message that was taken
unfoldable pub body_line : Message → List ℕ
body_line message = codes "body" ++ body_text message.body ++ codes "\n"

-- the line of a call, and one for each message that was taken, in order
unfoldable pub told_text : List Identity → Told → List ℕ
told_text hosts t = said_line hosts t.said ++ flat_map body_line (messages_of t.taken)
