-- `reply_writer::write_error` meets its contract: each arm is a row of the refusal table, and another number has none. Assumes nothing.
use native.Mathlib.Omega.{arith}
use Rattle.message.specs.Refusal.{error_table, error_in, refusal}
use Rattle.reply_writer.proofs.SendLaws.{error-none}
use Rattle.reply_writer.proofs.write_error.Goals as goal

pub returns-in-1 : goal.returns-in-1
unfolding refusal error_in error_table
returns-in-1 c = rw c.in-1.is c.write_text.ensures

pub returns-in-2 : goal.returns-in-2
unfolding refusal error_in error_table
returns-in-2 c = rw c.in-2.is c.write_text-in-2.ensures

pub returns-in-3 : goal.returns-in-3
unfolding refusal error_in error_table
returns-in-3 c = rw c.in-3.is c.write_text-in-3.ensures

pub returns-in-4 : goal.returns-in-4
unfolding refusal error_in error_table
returns-in-4 c = rw c.in-4.is c.write_text-in-4.ensures

pub returns-in-5 : goal.returns-in-5
unfolding refusal error_in error_table
returns-in-5 c = rw c.in-5.is c.write_text-in-5.ensures

pub returns-in-6 : goal.returns-in-6
unfolding refusal error_in error_table
returns-in-6 c = rw c.in-6.is c.write_text-in-6.ensures

pub returns-in-7 : goal.returns-in-7
unfolding refusal error_in error_table
returns-in-7 c = rw c.in-7.is c.write_text-in-7.ensures

pub returns-in-8 : goal.returns-in-8
unfolding refusal error_in error_table
returns-in-8 c = rw c.in-8.is c.write_text-in-8.ensures

pub returns-in-9 : goal.returns-in-9
unfolding refusal error_in error_table
returns-in-9 c = rw c.in-9.is c.write_text-in-9.ensures

pub returns-in-10 : goal.returns-in-10
unfolding refusal error_in error_table
returns-in-10 c = rw c.in-10.is c.write_text-in-10.ensures

pub returns-in-11 : goal.returns-in-11
unfolding refusal error_in error_table
returns-in-11 c = rw c.in-11.is c.write_text-in-11.ensures

pub returns-in_default : goal.returns-in_default
returns-in_default c = error-none _ _ _ (λ l h. omega arith)
