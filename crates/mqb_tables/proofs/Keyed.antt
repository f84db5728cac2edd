-- What a table has of its keys.
use Rattle.std.proofs.Common.{◌≡◌, ℕ, Bool, true, false, cond, Option, Some, None, refl, sym, ap, ◌∙◌, true≢false, is_some}
use Rattle.std.proofs.lemmas.Map.Made.{is_some-lookup}
use Rattle.std.proofs.lemmas.Option.{none-some}
use Rattle.indexmap.specs.IndexMap.{IndexMap, get, keys}
use Rattle.mqb_tables.specs.Keys.{HasKey}

pub none_from : (o : Option ℕ) → is_some o ≡ false → o ≡ None
none_from None h = refl
none_from (Some n) h = absurd (true≢false h)

pub some_from : (o : Option ℕ) → is_some o ≡ true → (n : ℕ) × (o ≡ Some n)
some_from None h = absurd (true≢false (sym h))
some_from (Some n) h = (n, refl)

module _ {K S : Type 0} (same : K → K → Bool) where
  pub key_of_number : (m : IndexMap K ℕ S) (key : K) (n : ℕ) → get same m key ≡ Some n → HasKey same (keys m) key
  key_of_number m key n is = sym (is_some-lookup (same key) m.entries) ∙ ap is_some is

  pub number_of_key : (m : IndexMap K ℕ S) (key : K) → HasKey same (keys m) key → (n : ℕ) × (get same m key ≡ Some n)
  number_of_key m key h = some_from (get same m key) (is_some-lookup (same key) m.entries ∙ h)

  -- numbers that stay keep their keys
  pub keys_stay : (m n : IndexMap K ℕ S) → ((key : K) (v : ℕ) → get same m key ≡ Some v → get same n key ≡ Some v) → (key : K) → HasKey same (keys m) key → HasKey same (keys n) key
  keys_stay m n stay key h = let at = number_of_key m key h in key_of_number n key at.0 (stay key at.0 at.1)

  -- a key that was not there joins the others
  pub numbers_stay : ((a b : K) → same a b ≡ true → a ≡ b) → (m n : IndexMap K ℕ S) (new : K) (w : Option ℕ) → get same m new ≡ None
      → ((key : K) → get same n key ≡ cond (same new key) w (get same m key)) → (key : K) (v : ℕ) → get same m key ≡ Some v → get same n key ≡ Some v
  numbers_stay equal m n new w none updates key v is = at (same new key) refl
    where
      at : (b : Bool) → same new key ≡ b → get same n key ≡ Some v
      at true e = absurd (none-some v (sym none ∙ (ap (get same m) (equal new key e) ∙ is)))
      at false e = updates key ∙ (ap (λ c. cond c w (get same m key)) e ∙ is)
