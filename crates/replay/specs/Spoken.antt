-- What a run writes, whatever a store tells: what calls of a desk gave, and behind it the histories.
use Rattle.std.specs.Prelude.{ℕ, List, ◌++◌}
use Rattle.gw_outside.specs.Writing.{IsPrefix}
use Rattle.gw_model.specs.Ending.{History}
use Rattle.tickets.specs.Desk.{DeskState, new_desk}
use Rattle.file_calls.specs.OneReply.{Speaks, histories_text}

-- A run wrote a front of what calls of one new desk gave, and of the histories behind it. Of the replies that such calls give
-- the laws of a desk say that each number gets at most one, and that it goes to whoever asked.
pub record IsSpoken (written : List ℕ) : Type 0 where
  pub desk : DeskState
  pub text : List ℕ
  pub histories : List (ℕ × History)
  pub speaks : Speaks new_desk desk text
  pub front : IsPrefix written (text ++ histories_text histories)
