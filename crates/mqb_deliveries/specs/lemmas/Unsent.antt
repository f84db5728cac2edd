-- An event that sends nothing.
use Rattle.std.proofs.Common.{◌≡◌, List, [], ◌++◌, sym, ap, subst, ◌∙◌}
use Rattle.std.proofs.lemmas.List.{append-nil}
use Rattle.std.specs.Prelude.{map, ℕ}
use Rattle.mqb_packet.specs.Plain.{plain_spelling}
use Rattle.mqb_packet.specs.declared.packet.Packet.{Packet}
use Rattle.mqb_posts.specs.Packets.{AreWritable}

-- no packet joins the medium
pub none_posted : (strings : List (List ℕ)) (sent : List Packet) → sent ≡ []
    → strings ≡ strings ++ map plain_spelling sent
none_posted strings sent none = sym (append-nil strings)
    ∙ ap (λ (ps : List Packet). strings ++ map plain_spelling ps) (sym none)

pub none_written : (sent : List Packet) → sent ≡ [] → AreWritable sent
none_written sent none = subst AreWritable (sym none) tt
