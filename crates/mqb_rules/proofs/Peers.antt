-- The peer that a search finds has the GUID.
use Rattle.std.proofs.Common.{◌≡◌, ℕ, true, List, get_or, Option, Some, None, [], ◌∷◌, sym, ap, ◌∙◌}
use Rattle.std.specs.Cmp.Lexicographic.{bytes_decides}
use Rattle.std.specs.List.{position, slice_get}
use Rattle.std.specs.Option.{option_map, IfSome}
use Rattle.std.proofs.lemmas.List.Quantifiers.{position-Some}
use Rattle.std.proofs.lemmas.Option.{slice_get-get_or, none-some}
use Rattle.mqb_base.specs.declared.ids.Guid.{Guid}
use Rattle.mqb_base.specs.declared.ids.Identity.{Identity}
use Rattle.mqb_base.specs.Same.{same_guid}

guid_is : (a b : Guid) → same_guid a b ≡ true → a ≡ b
guid_is a b e = ap (λ (l : List ℕ). record { 0 = l }) ((bytes_decides a.0 b.0).0 e)

-- one is found: it has the GUID
at_found : (peers : List Identity) (guid : Guid) (k : ℕ) → position (λ (p : Identity). same_guid p.guid guid) peers ≡ Some k → (d : Identity)
    → option_map (λ (p : Identity). p.guid) (slice_get peers k) ≡ Some guid
at_found peers guid k e d =
    let s = position-Some (λ (p : Identity). same_guid p.guid guid) peers k d e in
    ap (λ (o : Option Identity). option_map (λ (p : Identity). p.guid) o) (slice_get-get_or peers k d s.0)
    ∙ ap (λ (g : Guid). Some g) (guid_is (get_or peers k d).guid guid s.1)

pub known_guid : (peers : List Identity) (guid : Guid) (result : Option ℕ) → result ≡ position (λ (p : Identity). same_guid p.guid guid) peers
    → IfSome result (λ k. option_map (λ (p : Identity). p.guid) (slice_get peers k) ≡ Some guid)
known_guid peers guid None e = tt
known_guid [] guid (Some k) e = absurd (none-some k (sym e))
known_guid (p ∷ peers) guid (Some k) e = at_found (p ∷ peers) guid k (sym e) p
