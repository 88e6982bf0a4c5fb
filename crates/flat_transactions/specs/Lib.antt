pub mod BookCalls
pub mod Closing
pub mod StoreCalls
pub mod StoreStanding
pub mod TakenBack
pub mod OpenStore
pub mod Order
pub mod Laws
