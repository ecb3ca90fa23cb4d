-- The words: pieces cut at bars, by number.
use Rattle.std.specs.Prelude.{ℕ, List}
use Rattle.wording.specs.Text.{text}

-- refusal numbers, in document 01's words; 35 to 39 are 3 to 7 in a certificate's bytes
unfoldable pub refusals : List ℕ
unfolding text
refusals = text "|budget over 1,024|a scratch buffer too short|bytes end before a number, or inside it with under three groups read|not shortest, over 65,535, or a third group that continues|kind, count, atom, constructor, rule or variable number out of range; a pattern past either limit|reference not earlier, not in its table, of the wrong class, or a fix not over kind 4 or 5|bytes after the end|budget spent|nested too deep|no such binding|value of the wrong kind|wrong number of arguments|arguments, read left to right, don't have the rule's shapes|premise not in the base|announced conclusion differs|suppose-absurd body isn't false|no clause fits|output shorter than the certificate|certificate over its node or nesting limit|stated conclusion isn't the derived one|||||||||||||||in the certificate's bytes: bytes end before a number, or inside it with under three groups read|in the certificate's bytes: not shortest, over 65,535, or a third group that continues|in the certificate's bytes: kind, count, atom, constructor, rule or variable number out of range; a pattern past either limit|in the certificate's bytes: reference not earlier, not in its table, of the wrong class, or a fix not over kind 4 or 5|in the certificate's bytes: bytes after the end"

-- constructors 0 to 4
unfoldable pub constructors : List ℕ
unfolding text
constructors = text "not|and|or|if-then|iff"

-- rules 0 to 15
unfoldable pub rules : List ℕ
unfolding text
rules = text "claim|modus-ponens|modus-tollens|double-negation|both|left-and|right-and|left-either|right-either|constructive-dilemma|equivalence|left-iff|right-iff|true-intro|absurd|false-elim"

-- phrases by their kind, as templates over the phrase's row
unfoldable pub kinds : List ℕ
unfolding text
kinds = text "proposition 1|variable 1, counted from the innermost|constructor 7|rule 8|function, parameters 1, body phrase 2|method, parameters 1, body phrase 2|call of phrase 1, argument phrases:4|let phrase 1 in phrase 2|fix of phrase 1|match of phrase 1, clauses by pattern and phrase:6|||||||method call of phrase 1, argument phrases:4|assume phrase 1 in phrase 2|suppose-absurd phrase 1 in phrase 2|dlet phrase 1 in phrase 2|phrase 1 by phrase 2|block of phrases5|dmatch of phrase 1, clauses by pattern and phrase:6"

-- what keeps a request from being answered, as templates over a line, a column and the largest byte: faults in the text of the sheet, of the certificate;
-- no request; a certificate that can't be kept
unfoldable pub troubles : List ℕ
unfolding text
troubles = text "UNREADABLE: the sheet's text says no bytes: at line 1, column 2 stands a character that is neither a digit nor white space\n|UNREADABLE: the sheet's text says no bytes: at line 1, column 2 begins a number over 3\n|UNREADABLE: the certificate's text says no bytes: at line 1, column 2 stands a character that is neither a digit nor white space\n|UNREADABLE: the certificate's text says no bytes: at line 1, column 2 begins a number over 3\n|UNREADABLE: the request is no request, or is cut short\n|UNWRITTEN: the certificate can't be kept\n"
