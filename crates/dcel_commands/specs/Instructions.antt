-- What commands and lines say: the numbers and data alone, in whatever memory a command has its lists.
use Rattle.std.specs.Prelude.{ℕ, ℤ, ◌+◌, List, length}
use Rattle.dcel_commands.specs.declared.commands.command.Command.{Command}
use Rattle.dcel_commands.specs.declared.commands.command.Command.TheVariants as commands
use Rattle.dcel_commands.specs.declared.commands.query.Query.{Query}
use Rattle.dcel_commands.specs.declared.request.Request.{Request}
use Rattle.dcel_commands.specs.declared.request.Request.TheVariants as requests
use Rattle.dcel_commands.specs.Rules.{CommandRule}
use Rattle.dcel_commands.specs.request.Append.{append}
use Rattle.dcel_commands.specs.request.Cleanup.{cleanup}
use Rattle.dcel_commands.specs.request.Clear.{clear}
use Rattle.dcel_commands.specs.request.Close.{close}
use Rattle.dcel_commands.specs.request.Degenerate.{degenerate}
use Rattle.dcel_commands.specs.request.Extend.{extend}
use Rattle.dcel_commands.specs.request.Flip.{flip}
use Rattle.dcel_commands.specs.request.Half.{half}
use Rattle.dcel_commands.specs.request.Insert.{insert}
use Rattle.dcel_commands.specs.request.Isolate.{isolate}
use Rattle.dcel_commands.specs.request.Legalize.{legalize}
use Rattle.dcel_commands.specs.request.Line.{line}
use Rattle.dcel_commands.specs.request.Outside.{outside}
use Rattle.dcel_commands.specs.request.Put.{put}
use Rattle.dcel_commands.specs.request.Remesh.{remesh}
use Rattle.dcel_commands.specs.request.Remove.{remove}
use Rattle.dcel_commands.specs.request.Setup.{setup}
use Rattle.dcel_commands.specs.request.Split.{split}
use Rattle.dcel_commands.specs.request.Strip.{strip}
use Rattle.dcel_commands.specs.request.Swap.{swap}
use Rattle.dcel_commands.specs.request.Triangle.{triangle}

-- what a command says
pub data Instruction (V : Type 0) : Type 0 where
  Append : V → Instruction V
  Triangle : V → V → V → Instruction V
  Setup : ℕ → ℕ → Instruction V
  Extend : ℕ → ℕ → Instruction V
  Line : ℕ → ℕ → Instruction V
  Close : ℕ → Instruction V
  Outside : ℕ → ℕ → Instruction V
  Insert : ℕ → ℕ → Instruction V
  Half : ℕ → ℕ → Instruction V
  Split : ℕ → ℕ → Instruction V
  Flip : ℕ → Instruction V
  Swap : ℕ → ℕ → Instruction V
  Put : ℕ → V → Instruction V
  Isolate : ℕ → List ℕ → Instruction V
  Remesh : List ℕ → List ℕ → List ℕ → Instruction V
  Strip : List ℕ → Instruction V
  Cleanup : List ℕ → List ℕ → Instruction V
  Remove : ℕ → Instruction V
  Degenerate : ℕ → Instruction V
  Legalize : ℕ → List ℕ → Instruction V
  Clear : Instruction V

abbrev pub instruction : {V A : Type 0} → Command V A → Instruction V
instruction (commands.Append datum) = Append datum
instruction (commands.Triangle x y z) = Triangle x y z
instruction (commands.Setup a b) = Setup a b
instruction (commands.Extend a b) = Extend a b
instruction (commands.Line h b) = Line h b
instruction (commands.Close h) = Close h
instruction (commands.Outside h b) = Outside h b
instruction (commands.Insert v f) = Insert v f
instruction (commands.Half h b) = Half h b
instruction (commands.Split h b) = Split h b
instruction (commands.Flip u) = Flip u
instruction (commands.Swap a b) = Swap a b
instruction (commands.Put v datum) = Put v datum
instruction (commands.Isolate v hs) = Isolate v hs.items
instruction (commands.Remesh hs us fs) = Remesh hs.items us.items fs.items
instruction (commands.Strip hs) = Strip hs.items
instruction (commands.Cleanup us fs) = Cleanup us.items fs.items
instruction (commands.Remove v) = Remove v
instruction (commands.Degenerate v) = Degenerate v
instruction (commands.Legalize n us) = Legalize n us.items
instruction commands.Clear = Clear

-- what the file of its line says of it
abbrev pub command_rule : {V : Type 0} → Instruction V → CommandRule V
command_rule (Append datum) = append datum
command_rule (Triangle x y z) = triangle x y z
command_rule (Setup a b) = setup a b
command_rule (Extend a b) = extend a b
command_rule (Line h b) = line h b
command_rule (Close h) = close h
command_rule (Outside h b) = outside h b
command_rule (Insert v f) = insert v f
command_rule (Half h b) = half h b
command_rule (Split h b) = split h b
command_rule (Flip u) = flip u
command_rule (Swap a b) = swap a b
command_rule (Put v datum) = put v datum
command_rule (Isolate v hs) = isolate v hs
command_rule (Remesh hs us fs) = remesh hs us fs
command_rule (Strip hs) = strip hs
command_rule (Cleanup us fs) = cleanup us fs
command_rule (Remove v) = remove v
command_rule (Degenerate v) = degenerate v
command_rule (Legalize n us) = legalize n us
command_rule Clear = clear

-- how many numbers stand in its lists, which take memory before anything is asked
abbrev pub in_lists : {V : Type 0} → Instruction V → ℕ
in_lists (Isolate v hs) = length hs
in_lists (Remesh hs us fs) = length hs + length us + length fs
in_lists (Strip hs) = length hs
in_lists (Cleanup us fs) = length us + length fs
in_lists (Legalize n us) = length us
in_lists _ = 0

-- what a line says: a command to be carried out, or a query to be told
pub data Saying : Type 0 where
  Edit : Instruction ℤ → Saying
  Ask : Query → Saying

abbrev pub saying : {A : Type 0} → Request A → Saying
saying (requests.Edit command) = Edit (instruction command)
saying (requests.Ask query) = Ask query
