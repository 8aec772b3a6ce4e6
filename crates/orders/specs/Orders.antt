-- Orders given by tests, and one order after another.
use Rattle.std.specs.Prelude.{◌≡◌, Bool, true, false, cond, ◌⊎◌, MatchBool}

-- any two compare, though two that differ may each be at most the other
pub record Ranked {E : Type 0} (le : E → E → Bool) : Type 0 where
  pub total : (a b : E) → (le a b ≡ true) ⊎ (le b a ≡ true)
  pub transitive : (a b c : E) → le a b ≡ true → le b c ≡ true → le a c ≡ true

-- two that are each at most the other are the same
pub record Total {E : Type 0} (le : E → E → Bool) : Type 0 where
  pub ranked : Ranked le
  pub antisymmetric : (a b : E) → le a b ≡ true → le b a ≡ true → a ≡ b

-- by p, and where p holds both ways by q
abbrev pub lex : {E : Type 0} → (E → E → Bool) → (E → E → Bool) → E → E → Bool
lex p q a b = cond (p a b) (cond (p b a) (q a b) true) false

-- by what f makes of each
abbrev pub by : {E K : Type 0} → (E → K) → (K → K → Bool) → E → E → Bool
by f le a b = le (f a) (f b)

-- r says whether a is at most b by two tests, as `lex` does; `upper` and `lower` tell what calls of them may answer
abbrev pub InTurn : {E : Type 0} → (upper lower : E → E → Bool → Type 0) (a b : E) (r : Bool) → Type 0
InTurn upper lower a b r =
    MatchBool r
    (upper a b true × (upper b a false ⊎ lower a b true))
    (upper a b false ⊎ (upper b a true × lower a b false))
