-- Only want of memory excuses a call: no other fault of any kind counts as that.
use Rattle.std.proofs.Common.{◌≡◌, true, refl}
use Rattle.fax_job.specs.Order as order
use Rattle.fax_value.specs.TextFault as text
use Rattle.fax_value.specs.declared.text_fault.TextFault.{TextFault}
use Rattle.fax_value.specs.declared.text_fault.TextFault.TheVariants as text_fault
use Rattle.fax_job.specs.declared.order.OrderFault.{OrderFault}
use Rattle.fax_job.specs.declared.order.OrderFault.TheVariants as order_fault

-- a fault of a text that counts as want of memory is just that
pub memory_of_text : (fault : TextFault) → text.is_no_memory fault ≡ true → fault ≡ text_fault.NoMemory
memory_of_text text_fault.NoMemory h = refl
memory_of_text text_fault.Bad h = cc

-- so is one of an order
pub memory_of_order : (fault : OrderFault) → order.is_no_memory fault ≡ true → fault ≡ order_fault.NoMemory
memory_of_order order_fault.NoMemory h = refl
memory_of_order order_fault.NoNumber h = cc
memory_of_order order_fault.BadDial h = cc
memory_of_order order_fault.BadModem h = cc
memory_of_order order_fault.BadJobtag h = cc
memory_of_order order_fault.BadTts h = cc
memory_of_order order_fault.BadKilltime h = cc
memory_of_order order_fault.BadPriority h = cc
memory_of_order order_fault.NoPages h = cc
memory_of_order order_fault.BadPages h = cc
memory_of_order order_fault.BadMaxtries h = cc
memory_of_order order_fault.BadMaxdials h = cc
memory_of_order order_fault.NotAlterable h = cc
memory_of_order order_fault.BadNpages h = cc
memory_of_order order_fault.BadNtries h = cc
memory_of_order order_fault.BadTottries h = cc
memory_of_order order_fault.BadNdials h = cc
memory_of_order order_fault.BadTotdials h = cc
memory_of_order order_fault.BadState h = cc
