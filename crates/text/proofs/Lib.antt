mod Groups
mod Signs
