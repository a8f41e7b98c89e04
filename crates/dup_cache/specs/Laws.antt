-- What keeping replies comes to.
use Rattle.std.specs.Prelude.{◌≡◌, ◌≢◌, ℕ, ◌<◌, ◌^◌, List, Some, IfSome}
use Rattle.dup_cache.specs.CallList.{CallList, call_key, reply_for, with_used, with_begun, with_filled}

-- Calls with the same key are of the same client, and have the same bytes.
abbrev pub CallKeysDiffer : Type 0
CallKeysDiffer = (client client' : ℕ) (call call' : List ℕ) → client < 2 ^ 32 → client' < 2 ^ 32
    → call_key client call ≡ call_key client' call' → (client ≡ client') × (call ≡ call')

-- A call whose reply was begun and filled is answered with that reply.
abbrev pub AnswersAgain : Type 0
AnswersAgain = (key text : List ℕ) (room : ℕ) (l : CallList) → reply_for key (with_filled key text (with_begun key room l)) ≡ Some text

-- To use a call changes no call's answer.
abbrev pub UseKeepsAnswers : Type 0
UseKeepsAnswers = (key other : List ℕ) (l : CallList) → reply_for other (with_used key l) ≡ reply_for other l

-- What another call is answered with after that is what it was answered with before.
abbrev pub OthersKeepAnswers : Type 0
OthersKeepAnswers = (key other text : List ℕ) (room : ℕ) (l : CallList) → other ≢ key
    → IfSome (reply_for other (with_filled key text (with_begun key room l))) (λ answer. reply_for other l ≡ Some answer)
