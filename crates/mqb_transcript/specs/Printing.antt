use Rattle.std.specs.Prelude.{ℕ, List, ◌++◌}
use Rattle.mqb_base.specs.declared.ids.Identity.{Identity}

-- what is being printed: the managers that are known by their hosts, and the text so far
pub record Page : Type 0 where
  pub hosts : List Identity
  pub text : List ℕ

-- the page with more text
unfoldable pub wrote : Page → List ℕ → Page
wrote page more = record page { text = page.text ++ more }
