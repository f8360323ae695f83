-- A report or a drop, task k from 1: what is answered, and the book that is handed back.
use Rattle.theory.specs.Words.Events.{Event}
use Rattle.plan.specs.declared.Answer.{Answer}
use Rattle.book.specs.Report.{reported_of}
use Rattle.book.specs.Drop.{dropped_of}
use Rattle.book.specs.declared.Book.{Book}

abbrev pub answer_to : Book → Event → Answer
answer_to book (Event.ends task tick) = (reported_of book task tick).answer
answer_to book (Event.drops task) = (dropped_of book task).answer

abbrev pub book_told : Book → Event → Book
book_told book (Event.ends task tick) = (reported_of book task tick).book
book_told book (Event.drops task) = (dropped_of book task).book
