-- The number of each kind of phrase.
use Rattle.std.specs.Prelude.{ℕ, List, [], ◌∷◌, get_or, Option, Some, None}
use Rattle.records.specs.declared.phrase_kind.PhraseKind.{PhraseKind}
use Rattle.records.specs.declared.phrase_kind.PhraseKind.TheVariants.{Proposition, Variable, Constructor, Rule, Function, Method, Call, Let, Fix, Match, MethodCall, Assume, Suppose, DLet, By, Block, DMatch}

-- the number under which document 01 has it
abbrev pub phrase_number : PhraseKind → ℕ
phrase_number Proposition = 0
phrase_number Variable = 1
phrase_number Constructor = 2
phrase_number Rule = 3
phrase_number Function = 4
phrase_number Method = 5
phrase_number Call = 6
phrase_number Let = 7
phrase_number Fix = 8
phrase_number Match = 9
phrase_number MethodCall = 16
phrase_number Assume = 17
phrase_number Suppose = 18
phrase_number DLet = 19
phrase_number By = 20
phrase_number Block = 21
phrase_number DMatch = 22

-- the kinds in the order of their numbers; 10 to 15 are no kinds'
abbrev pub phrase_kinds : List (Option PhraseKind)
phrase_kinds =
    Some Proposition
    ∷ (Some Variable
    ∷ (Some Constructor
    ∷ (Some Rule
    ∷ (Some Function
    ∷ (Some Method
    ∷ (Some Call
    ∷ (Some Let
    ∷ (Some Fix
    ∷ (Some Match
    ∷ (None ∷ (None ∷ (None ∷ (None ∷ (None ∷ (None
    ∷ (Some MethodCall
    ∷ (Some Assume
    ∷ (Some Suppose
    ∷ (Some DLet
    ∷ (Some By
    ∷ (Some Block
    ∷ (Some DMatch
    ∷ []))))))))))))))))))))))

-- the kind of a number, where it is a kind's
abbrev pub phrase_kind_of : ℕ → Option PhraseKind
phrase_kind_of n = get_or phrase_kinds n None
