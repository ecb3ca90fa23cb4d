-- Templates: a text in which a digit stands for facts, numbers that are given with it.
use Rattle.std.specs.Prelude.{ℕ, ◌*◌, ◌-◌, List, [], ◌∷◌, ◌++◌, get_or, take, drop, eqb, leb}
use Rattle.wording.specs.Page.{pick}
use Rattle.wording.specs.Text.{decimal, listed, piece}
use Rattle.wording.specs.Tables.{refusals, constructors, rules}

-- how many numbers so many clauses have; there are at most four
abbrev pub paired : ℕ → ℕ
paired n = pick (leb n 4) (2 * n) 8

-- the words for a number: 7 those of a constructor, 8 of a rule, 9 of a refusal
abbrev pub named : ℕ → ℕ → List ℕ
named c k = pick (eqb c 55) (piece k constructors) (pick (eqb c 56) (piece k rules) (piece k refusals))

-- what a digit's character stands for: 1, 2 and 3 that fact; 4 as many facts from 3 on as fact 2 says, 5 as many from 2 on as fact 1 says,
-- 6 the clauses from 3 on, as many as fact 2 says; 7 constructor, 8 rule, 9 refusal of fact 1's number
abbrev pub told : List ℕ → ℕ → List ℕ
told facts c =
    pick (leb c 51) (decimal (get_or facts (c - 48) 0))
    (pick (eqb c 52) (listed (take (get_or facts 2 0) (drop 3 facts)))
    (pick (eqb c 53) (listed (take (get_or facts 1 0) (drop 2 facts)))
    (pick (eqb c 54) (listed (take (paired (get_or facts 2 0)) (drop 3 facts)))
    (named c (get_or facts 1 0)))))

-- what a character stands for: a digit from 1 to 9 for facts, another for itself
abbrev pub part : List ℕ → ℕ → List ℕ
part facts c = pick (leb 49 c) (pick (leb c 57) (told facts c) (c ∷ [])) (c ∷ [])

-- a template filled
unfoldable pub filled : List ℕ → List ℕ → List ℕ
filled facts [] = []
filled facts (c ∷ cs) = part facts c ++ filled facts cs
