-- Document 01's refusal numbers, each under one name, in its words.
use Rattle.std.specs.Prelude.{ℕ}

-- budget over 1,024
abbrev pub budget_over : ℕ
budget_over = 1

-- a scratch buffer too short
abbrev pub scratch_short : ℕ
scratch_short = 2

-- bytes end before a number, or inside it with under three groups read
abbrev pub bytes_end : ℕ
bytes_end = 3

-- not shortest, over 65,535, or a third group that continues
abbrev pub not_shortest : ℕ
not_shortest = 4

-- kind, count, atom, constructor, rule or variable number out of range; a pattern past either limit
abbrev pub out_of_range : ℕ
out_of_range = 5

-- reference not earlier, not in its table, of the wrong class, or a fix not over kind 4 or 5
abbrev pub wrong_reference : ℕ
wrong_reference = 6

-- bytes after the end
abbrev pub bytes_after : ℕ
bytes_after = 7

-- budget spent
abbrev pub budget_spent : ℕ
budget_spent = 8

-- nested too deep
abbrev pub too_deep : ℕ
too_deep = 9

-- no such binding
abbrev pub no_binding : ℕ
no_binding = 10

-- value of the wrong kind
abbrev pub wrong_kind : ℕ
wrong_kind = 11

-- wrong number of arguments
abbrev pub wrong_count : ℕ
wrong_count = 12

-- arguments don't have the rule's shapes
abbrev pub wrong_shapes : ℕ
wrong_shapes = 13

-- premise not in the base
abbrev pub premise_missing : ℕ
premise_missing = 14

-- announced conclusion differs
abbrev pub announced_differs : ℕ
announced_differs = 15

-- suppose-absurd body isn't false
abbrev pub not_false : ℕ
not_false = 16

-- no clause fits
abbrev pub no_clause : ℕ
no_clause = 17

-- output shorter than the certificate
abbrev pub output_short : ℕ
output_short = 18

-- certificate over its node or nesting limit
abbrev pub certificate_over : ℕ
certificate_over = 19

-- stated conclusion isn't the derived one
abbrev pub stated_differs : ℕ
stated_differs = 20

-- 3 to 7, met in a certificate's bytes, are so much more: 35 to 39
abbrev pub in_certificate : ℕ
in_certificate = 32
